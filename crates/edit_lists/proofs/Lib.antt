pub mod Cuts
pub mod Deals
pub mod Cited
