pub mod Define
pub mod Lines
pub mod Outcomes
pub mod Settling
