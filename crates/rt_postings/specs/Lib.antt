pub mod Postings
pub mod DocSet
pub mod Runs
pub mod Words
