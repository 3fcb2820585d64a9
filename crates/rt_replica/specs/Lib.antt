pub mod Held
pub mod HeldSoFar
pub mod Lasting
pub mod Own
