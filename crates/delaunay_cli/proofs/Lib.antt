pub mod FilesRead
pub mod DealtLines
pub mod OneWorker
