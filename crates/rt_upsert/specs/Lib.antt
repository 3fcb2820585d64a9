pub mod Answer
pub mod Changes
pub mod Index
pub mod Latest
pub mod Laws
pub mod Placed
pub mod Ranked
pub mod Refused
