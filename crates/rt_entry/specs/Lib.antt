pub mod Entry
pub mod Transition
pub mod Calls
pub mod Download
pub mod Loading
pub mod Serving
