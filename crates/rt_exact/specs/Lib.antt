pub mod Acts
pub mod Alike
pub mod Answered
pub mod Asked
pub mod Reads
pub mod Rows
pub mod Shown
