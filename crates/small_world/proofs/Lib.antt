pub mod HasLemmas
pub mod Numbering
mod Records
pub mod Keeping
pub mod Invariant
pub mod Commanding
pub mod Acts
pub mod Delivering
pub mod Running
pub mod Marking
pub mod Counting
pub mod Attending
pub mod Reaching
pub mod Taking
pub mod Choosing
pub mod Redelivering
pub mod Staying
mod Computing
mod Playing
pub mod Leaving
pub mod Losing
pub mod Spelled
pub mod Ranging
pub mod Planning
pub mod Showing
pub mod Growing
pub mod Reached
