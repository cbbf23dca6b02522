pub mod BareWords
pub mod UsedNames
