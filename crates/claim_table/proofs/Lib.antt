mod LivePasses
mod Boarded
mod SplitEvents
pub mod Trailed
mod Reached
mod Claims
mod Commits
mod Divides
mod Opening
mod Looks
mod Releases
mod Closing
mod StepsAllowed
mod JoinedEntries
pub mod Joins
mod Carrying
mod OpeningSlots
pub mod Homecoming
pub mod MoreHands
pub mod Resting
mod Counted
pub mod Showing
pub mod Cited
