pub mod Acting
pub mod Did
pub mod Seat
pub mod Steps
