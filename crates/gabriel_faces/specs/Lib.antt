pub mod Gabriel
pub mod Links
pub mod Laws
