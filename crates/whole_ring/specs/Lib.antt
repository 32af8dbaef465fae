pub mod Bounds
pub mod Laws
pub mod Poly
pub mod Signs
pub mod Determinants
