pub mod Passed
pub mod Verdict
pub mod Judged
pub mod Cited
