pub mod Scanned
pub mod Depth
