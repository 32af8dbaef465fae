pub mod Affine
pub mod Alternation
pub mod Solidity
pub mod Spheres
pub mod Written
pub mod Cited
