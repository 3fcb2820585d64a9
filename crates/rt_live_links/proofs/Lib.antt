pub mod Counts
pub mod Dealt
pub mod Ended
pub mod Lines
pub mod Named
pub mod Places
pub mod Taken
