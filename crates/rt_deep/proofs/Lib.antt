pub mod Files
pub mod Index
pub mod Owning
pub mod Seeing
pub mod Told
