mod Failing
pub mod Sorting
pub mod Stretches
pub mod Gathering
pub mod Putting
pub mod Growing
pub mod FaceLists
pub mod FaceLaws
pub mod FullCells
pub mod Apart
pub mod Cited
