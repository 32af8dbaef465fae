pub mod Commuting
pub mod Edits
pub mod Laws
pub mod Lists
pub mod Others
pub mod Digs
pub mod FiveCells
pub mod Stars
