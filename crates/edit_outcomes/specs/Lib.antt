pub mod Outcomes
pub mod Folding
pub mod Laws
