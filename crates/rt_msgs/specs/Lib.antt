pub mod Numbered
pub mod RequestText
pub mod StatusText
