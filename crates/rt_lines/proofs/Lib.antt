pub mod Arrays
pub mod ClusterLines
pub mod Clusters
pub mod Cuts
mod Digits
pub mod HeaderLimits
pub mod Headers
pub mod JsonTexts
pub mod PartsOfLines
pub mod Readings
