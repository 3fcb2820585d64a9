pub mod Znodes
