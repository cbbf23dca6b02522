pub mod Carried
pub mod Passing
pub mod InOrder
pub mod FirstBlamed
pub mod FirstFault
