pub mod Rules
pub mod Breaches
pub mod Kinds
pub mod Checks
pub mod Parsing
pub mod Queries
