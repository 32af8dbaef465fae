pub mod Text
pub mod Report
pub mod Rows
pub mod Summary
pub mod Off
pub mod Reading
