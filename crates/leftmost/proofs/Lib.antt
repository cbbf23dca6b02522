pub mod Outside
pub mod MissingFrom
