pub mod Peers
pub mod Rehearsing
pub mod Telling
