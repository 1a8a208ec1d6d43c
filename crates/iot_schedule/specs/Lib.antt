pub mod Words
pub mod Tokens
pub mod Operations
pub mod Devices
pub mod Steps
pub mod Spelling
pub mod Ranges
pub mod Making
