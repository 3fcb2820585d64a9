pub mod Settings
pub mod Telling
