pub mod Own
pub mod Index
pub mod Putting
