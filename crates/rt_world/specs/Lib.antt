pub mod Ends
pub mod Kept
pub mod Reading
pub mod Step
pub mod Way
