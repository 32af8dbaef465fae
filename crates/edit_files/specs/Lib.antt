pub mod Content
pub mod Grammar
pub mod Held
pub mod LinesLeft
pub mod Faults
pub mod Judging
pub mod Writing
pub mod Generator
