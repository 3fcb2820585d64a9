pub mod Ascending
pub mod Distinct
pub mod Same
pub mod Numbering
