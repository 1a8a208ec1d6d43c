pub mod Spelling
pub mod Reading
pub mod Checks
pub mod Replies
