pub mod Order
pub mod Descent
