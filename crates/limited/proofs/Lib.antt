pub mod Fitting
pub mod Numbered
