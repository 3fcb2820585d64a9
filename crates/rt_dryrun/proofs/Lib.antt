pub mod Fetched
pub mod Keeping
pub mod Moves
pub mod Others
pub mod Plans
pub mod RightPeers
pub mod Steps
