pub mod ReadingScanned
pub mod StartsAscend
pub mod TooDeepPlace
