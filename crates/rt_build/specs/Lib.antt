pub mod Renumbered
pub mod Sealing
