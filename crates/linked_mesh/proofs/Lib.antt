pub mod Taken
pub mod Keys
pub mod Replied
pub mod Clouds
pub mod Moved
pub mod Opened
pub mod Neighbours
