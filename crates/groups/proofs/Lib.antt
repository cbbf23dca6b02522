pub mod Digits
pub mod Stacks
pub mod Plans
