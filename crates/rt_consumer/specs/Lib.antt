pub mod Consumer
pub mod Next
pub mod Replies
pub mod Batch
pub mod Requests
pub mod Serving
