pub mod Pieces
pub mod LineCases
pub mod Feeds
