pub mod Orders
pub mod Climbing
pub mod Runs
