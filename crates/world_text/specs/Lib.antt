pub mod Removing
pub mod Putting
