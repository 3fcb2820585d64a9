pub mod Forcing
pub mod Hybrid
pub mod IsDesk
pub mod Latest
pub mod Paused
pub mod Rehearsing
pub mod Saying
pub mod Telling
