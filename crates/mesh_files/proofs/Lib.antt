pub mod Cells
pub mod Rereading
