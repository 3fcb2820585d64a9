pub mod Added
pub mod Members
pub mod Setting
pub mod Shown
pub mod Unnamed
