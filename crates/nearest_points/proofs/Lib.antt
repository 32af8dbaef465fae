pub mod Order
pub mod Cited
