pub mod Home
pub mod Recover
pub mod States
pub mod Steps
pub mod Example
