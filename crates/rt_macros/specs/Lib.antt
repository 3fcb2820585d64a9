pub mod Doing
pub mod Exchanging
pub mod Filling
pub mod Outcomes
pub mod Querying
pub mod Resting
pub mod Settling
