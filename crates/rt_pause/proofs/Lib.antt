pub mod Keeping
pub mod Pauses
pub mod Pending
