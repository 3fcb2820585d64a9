pub mod Cutting
pub mod Rising
pub mod Writing
