pub mod Chaoses
pub mod Entered
pub mod Gathered
pub mod Inputs
