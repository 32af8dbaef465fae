pub mod Places
pub mod Flowing
pub mod Sheets
pub mod Slots
pub mod Spaced
pub mod Ranges
pub mod Cited
