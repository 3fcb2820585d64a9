pub mod Ended
pub mod Ends
pub mod Headline
pub mod Input
pub mod Meeting
pub mod Right
