pub mod ChaosWords
pub mod Entries
pub mod Gathering
pub mod Input
pub mod Lines
