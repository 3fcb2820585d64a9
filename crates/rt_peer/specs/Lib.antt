pub mod Calls
pub mod Counts
pub mod Fetching
pub mod Files
pub mod Meaning
pub mod RightPeer
