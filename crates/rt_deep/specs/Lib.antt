pub mod Answers
pub mod Calls
pub mod Files
pub mod Index
pub mod Meaning
pub mod Memory
