pub mod Clouds
pub mod Corners
pub mod Nets
pub mod Pages
pub mod Stars
pub mod Parts
pub mod Marked
