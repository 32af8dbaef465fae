pub mod Faces
pub mod Tables
pub mod Gather
pub mod Around
pub mod Order
pub mod Seen
pub mod Laws
