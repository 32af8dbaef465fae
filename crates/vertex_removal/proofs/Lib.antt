pub mod Removals
pub mod Star
pub mod Holes
pub mod RefillTurns
pub mod Cited
