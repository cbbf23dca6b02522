pub mod Storing
pub mod Fitting
