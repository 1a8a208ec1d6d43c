pub mod Status
pub mod Lines
pub mod Sends
pub mod Parts
pub mod Runs
