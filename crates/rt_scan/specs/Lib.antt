pub mod IndexById
pub mod GroupIds
pub mod Grouping
pub mod Scanned
pub mod Filled
pub mod Skips
pub mod Summaries
