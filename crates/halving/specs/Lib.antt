pub mod Halving
pub mod Examples
