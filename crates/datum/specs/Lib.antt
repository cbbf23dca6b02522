pub mod Encoding
pub mod Datums
