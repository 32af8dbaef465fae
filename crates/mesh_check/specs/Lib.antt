pub mod Boxes
pub mod Flaws
pub mod Sides
pub mod Text
pub mod Laws
