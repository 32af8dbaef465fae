pub mod Lines
pub mod Indices
pub mod Pages
pub mod Sheets
pub mod Ways
