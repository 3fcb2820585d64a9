pub mod Literals
pub mod Tokens
pub mod Written
