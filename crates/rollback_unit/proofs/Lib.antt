pub mod Enabling
pub mod Marking
pub mod Permitting
