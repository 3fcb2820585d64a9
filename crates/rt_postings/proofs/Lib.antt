pub mod InPlace
pub mod Sorting
pub mod Marks
pub mod Scans
