pub mod Fitting
pub mod LinesFit
pub mod Queries
