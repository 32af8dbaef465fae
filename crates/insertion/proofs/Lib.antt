pub mod OpeningLaws
pub mod Insertions
pub mod FoundFours
pub mod Searches
pub mod Arrivals
pub mod Cited
