pub mod Faults
pub mod Exact
pub mod Pieces
pub mod Planned
