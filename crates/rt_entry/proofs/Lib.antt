pub mod Settings
pub mod Learning
pub mod Served
pub mod Loading
pub mod Copies
pub mod Faults
