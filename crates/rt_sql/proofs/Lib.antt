pub mod Grouped
pub mod Rising
pub mod Breaches
pub mod Texts
pub mod Answered
pub mod Fitting
