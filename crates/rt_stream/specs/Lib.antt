pub mod Feed
pub mod Log
pub mod Pages
