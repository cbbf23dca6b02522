pub mod Clips
pub mod SettingRecords
pub mod ReadRecord
pub mod Settings
