pub mod Held
pub mod Counts
pub mod Benches
pub mod Commands
pub mod Boots
pub mod Plans
pub mod Starts
