pub mod Closed
pub mod Stepped
pub mod Opened
pub mod Kept
pub mod Settled
pub mod Returned
