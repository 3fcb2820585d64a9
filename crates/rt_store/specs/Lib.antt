pub mod Answers
pub mod Calls
pub mod Contents
pub mod Index
pub mod Meaning
pub mod Memory
pub mod Order
pub mod Outcome
