pub mod Nots
pub mod Completing
pub mod Sound
pub mod Forward
pub mod Deeper
pub mod Viable
pub mod Deepest
