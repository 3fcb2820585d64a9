pub mod Applied
pub mod Doing
pub mod Idle
pub mod Next
pub mod Passed
pub mod Turns
