pub mod Feeding
pub mod Joined
pub mod Leaving
pub mod Left
pub mod Meeting
pub mod Parted
pub mod Putting
pub mod Showing
