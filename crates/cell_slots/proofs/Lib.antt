pub mod FacetNumbers
pub mod Nets
pub mod Moving
pub mod Marks
pub mod WholePages
pub mod Beside
pub mod Parts
pub mod Cited
