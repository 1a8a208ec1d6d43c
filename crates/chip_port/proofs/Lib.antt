pub mod Apart
pub mod Runs
mod Kept
mod Steps
mod Settling
