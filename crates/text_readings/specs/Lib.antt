pub mod PointLines
pub mod Scanning
pub mod Readings
pub mod Judging
