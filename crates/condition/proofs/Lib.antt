pub mod Texts
pub mod Counts
pub mod PlaceWithin
