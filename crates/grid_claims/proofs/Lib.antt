mod Stopped
mod Planning
mod Finishing
pub mod Trying
mod Parted
pub mod Snapped
pub mod Cited
