pub mod Rows
pub mod Filling
pub mod Fetched
