pub mod Bounds
pub mod Laws
pub mod Numbers
pub mod Poly
pub mod Ring
pub mod Signs
pub mod Whole
pub mod Cited
