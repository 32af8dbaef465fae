pub mod Affine
pub mod Alternation
pub mod Places
pub mod Solidity
pub mod Spheres
