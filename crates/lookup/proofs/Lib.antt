pub mod Numbers
pub mod RecordUnderName
pub mod Within
pub mod InFront
pub mod Records
pub mod Halved
