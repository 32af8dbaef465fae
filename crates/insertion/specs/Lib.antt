pub mod Opening
pub mod Entries
pub mod Searches
pub mod Arrivals
