pub mod Fitting
pub mod Counting
pub mod Piecing
pub mod Stopping
pub mod Ending
pub mod Made
