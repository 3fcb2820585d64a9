pub mod BitLists
pub mod LeastWidth
pub mod Groups
pub mod Words
pub mod Writing
pub mod Laws
