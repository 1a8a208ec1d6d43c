pub mod Status
pub mod Edges
pub mod Frames
pub mod Breaks
pub mod Sends
pub mod Parts
pub mod Runs
