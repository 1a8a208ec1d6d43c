pub mod Counting
pub mod Standing
pub mod Commanding
pub mod Booting
pub mod Starting
pub mod Planning
pub mod Same
