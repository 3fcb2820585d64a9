pub mod Counted
pub mod Gathered
pub mod Linked
pub mod Rows
