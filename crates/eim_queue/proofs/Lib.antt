mod Finding
mod Following
mod Keeping
mod Standing
mod Sending
