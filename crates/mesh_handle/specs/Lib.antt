pub mod Held
pub mod Handles
pub mod Replies
pub mod Many
