pub mod Lines
pub mod Directives
pub mod Cutting
pub mod Examples
