pub mod SameConditions
pub mod Simulation
pub mod SelectionIsolated
