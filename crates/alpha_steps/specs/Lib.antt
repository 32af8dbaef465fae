pub mod Thresholds
pub mod Seen
pub mod Text
