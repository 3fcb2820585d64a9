pub mod Drained
pub mod Lives
pub mod Printed
pub mod Run
pub mod Words
