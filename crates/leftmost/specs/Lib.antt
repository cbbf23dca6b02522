pub mod Tokens
pub mod Leftmost
