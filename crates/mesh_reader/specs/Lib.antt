pub mod Grammar
pub mod Packed
pub mod Faults
pub mod Judging
pub mod Order
pub mod LinesLeft
pub mod Pieces
