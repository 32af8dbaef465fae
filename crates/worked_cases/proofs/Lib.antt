pub mod Meetings
pub mod Numbered
