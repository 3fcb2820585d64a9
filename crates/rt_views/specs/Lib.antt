pub mod Plans
pub mod Views
pub mod Placing
pub mod Answers
pub mod Streamed
