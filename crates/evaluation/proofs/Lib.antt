pub mod Arrays
pub mod FromTree
pub mod OffsetWithin
pub mod OneRecord
