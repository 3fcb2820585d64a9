pub mod Cuts
pub mod Growth
pub mod Places
pub mod Ranges
