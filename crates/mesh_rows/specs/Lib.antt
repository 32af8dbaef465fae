pub mod Rows
pub mod Across
pub mod Linked
pub mod Around
pub mod Held
pub mod Meshes
pub mod Rooms
pub mod Parts
