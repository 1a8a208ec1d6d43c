pub mod Deciding
pub mod Accepting
pub mod Passing
