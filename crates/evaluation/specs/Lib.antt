pub mod Evaluation
pub mod Arrays
