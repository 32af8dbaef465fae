mod Walls
mod Planes
mod Tiles
mod Left
