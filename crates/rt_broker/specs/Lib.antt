pub mod Answering
pub mod Asking
pub mod IsAsked
pub mod IsAskedBy
pub mod Merging
pub mod Noting
pub mod Routing
