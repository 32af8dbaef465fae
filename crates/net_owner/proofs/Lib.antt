pub mod Nearing
pub mod PartWith
