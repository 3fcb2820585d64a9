pub mod Sets
pub mod Keys
pub mod Rows
pub mod Posted
pub mod Held
pub mod Scalars
pub mod Arrived
pub mod Sought
