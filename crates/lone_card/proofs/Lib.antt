mod Histories
mod Topping
mod Chips
mod Replying
mod Answering
mod Serving
pub mod Ending
mod Once
mod Spelled
