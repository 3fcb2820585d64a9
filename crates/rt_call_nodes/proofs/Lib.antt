mod Counts
pub mod Streams
