pub mod Acting
pub mod Asks
pub mod Counted
pub mod Feeds
pub mod Replayed
pub mod Steps
