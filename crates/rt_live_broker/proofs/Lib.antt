pub mod Acts
pub mod Feeding
pub mod Keeping
pub mod Replaying
pub mod Since
pub mod Wholes
