mod Around
mod Telling
mod Heard
mod Replied
pub mod Turning
mod Carrying
mod Powering
mod Resting
mod Messaging
mod Quieting
mod Attaching
mod Attending
mod Idling
mod Ranging
mod Halting
mod Handing
mod Showing
