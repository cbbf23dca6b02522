pub mod LineZero
pub mod Refused
pub mod Unplaced
