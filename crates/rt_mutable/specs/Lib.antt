pub mod Arrivals
pub mod Keys
pub mod Column
pub mod RowLists
pub mod Index
pub mod Consuming
pub mod Columns
