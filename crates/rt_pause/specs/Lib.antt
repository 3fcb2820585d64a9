pub mod Forced
pub mod Paused
