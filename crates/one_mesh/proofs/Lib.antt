pub mod CloudSets
pub mod Edited
pub mod Gathering
pub mod Locating
