pub mod Psmos
pub mod Ecos
pub mod Bodies
pub mod Packages
pub mod Replying
pub mod InRange
pub mod Malformed
