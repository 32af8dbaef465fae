pub mod Edits
pub mod Histories
pub mod Opening
pub mod OneThread
pub mod Merging
pub mod PassedOver
pub mod Laws
