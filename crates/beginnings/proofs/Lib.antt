pub mod Trace
pub mod Local
pub mod Viable
pub mod FirstBad
pub mod Examples
