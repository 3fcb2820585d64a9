pub mod Lives
pub mod Text
