pub mod Apart
pub mod Appends
pub mod Awaiting
mod Entries
pub mod Finishing
mod First
pub mod Fitting
mod Holders
pub mod Holding
mod Kept
mod Marked
mod Merges
pub mod Orders
mod Picked
mod Places
pub mod Results
mod Showing
mod Slots
mod Sorting
mod Spreading
mod Tables
mod Tabling
mod Untold
mod Walks
