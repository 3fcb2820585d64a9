pub mod AllMine
pub mod Lived
pub mod Rightly
mod Sames
