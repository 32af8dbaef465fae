pub mod Tiles
pub mod Left
