pub mod Answers
pub mod Steps
pub mod Closing
pub mod Openings
pub mod Laws
pub mod Settling
