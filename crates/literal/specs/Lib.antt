pub mod Literal
pub mod Sizes
