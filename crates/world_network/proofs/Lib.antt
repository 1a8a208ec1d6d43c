mod Places
mod Sending
pub mod Standing
