pub mod Again
pub mod Ahead
pub mod Commits
pub mod Off
pub mod Spent
pub mod Waiting
