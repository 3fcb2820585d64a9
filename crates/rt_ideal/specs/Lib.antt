pub mod Others
pub mod Setting
pub mod Shown
pub mod Text
