pub mod Changing
pub mod Anchoring
pub mod Folding
pub mod Outcomes
pub mod Cited
