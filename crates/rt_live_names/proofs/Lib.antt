pub mod Posting
pub mod Replaying
pub mod Showing
pub mod Viewing
