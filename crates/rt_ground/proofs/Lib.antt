pub mod Callers
pub mod Closed
pub mod Deeps
pub mod Entries
pub mod Promises
pub mod Shares
pub mod Stores
pub mod Streams
