pub mod FirstLine
pub mod Words
pub mod Counting
pub mod Passing
pub mod DefineLine
