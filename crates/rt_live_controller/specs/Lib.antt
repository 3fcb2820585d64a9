pub mod Acting
pub mod Begun
pub mod ControllerSeat
pub mod ControllerSteps
pub mod Did
pub mod Repairing
