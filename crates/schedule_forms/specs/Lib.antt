pub mod Grammar
pub mod Checks
pub mod Starting
pub mod Schedules
pub mod Pieces
