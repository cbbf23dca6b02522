pub mod Step
pub mod Select
pub mod Running
