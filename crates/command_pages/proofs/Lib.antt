pub mod Lines
pub mod Clouds
pub mod Judging
pub mod ShapesOfSet
pub mod Unwritten
pub mod MeshJudged
pub mod PiecesRead
pub mod Cited
