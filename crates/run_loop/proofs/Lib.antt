pub mod Going
pub mod Causes
pub mod Ending
pub mod Mapping
pub mod StopRecord
pub mod Breaking
pub mod Stopping
