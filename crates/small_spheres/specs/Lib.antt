pub mod Inside
pub mod Within
pub mod Sizes
pub mod Laws
pub mod Boxes
