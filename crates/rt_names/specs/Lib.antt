pub mod Calendar
pub mod Minute
pub mod Table
pub mod Parts
pub mod Name
