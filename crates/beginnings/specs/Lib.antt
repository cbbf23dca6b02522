pub mod Beginnings
pub mod Examples
