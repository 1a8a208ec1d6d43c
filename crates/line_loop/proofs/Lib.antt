pub mod Going
pub mod Taking
pub mod Ending
pub mod Mapping
