pub mod KeySets
pub mod MoreLines
pub mod PointSets
pub mod Cited
