pub mod Answer
pub mod Cluster
pub mod ClusterLine
pub mod Fault
pub mod Header
pub mod Lines
pub mod Reading
pub mod Words
