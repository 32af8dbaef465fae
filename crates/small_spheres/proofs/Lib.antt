pub mod Normals
pub mod Leasts
pub mod ScalarProducts
