pub mod Beside
pub mod RecordsAt
pub mod Steps
pub mod Beginning
pub mod Ascending
pub mod Finds
pub mod RoundsBounded
pub mod FullTable
