pub mod Cards
pub mod Marks
pub mod Answering
pub mod Benches
pub mod Walks
pub mod Starting
pub mod Runs
pub mod Ends
