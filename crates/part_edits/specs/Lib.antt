pub mod Made
pub mod Rounds
pub mod Laws
pub mod Takes
pub mod Changes
pub mod Lists
