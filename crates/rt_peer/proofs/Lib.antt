pub mod Leading
pub mod Counting
pub mod Decoding
pub mod Named
pub mod OneFile
pub mod Passing
pub mod Refusing
pub mod RightPeers
