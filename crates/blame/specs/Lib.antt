pub mod Nodes
pub mod Blame
pub mod Applied
