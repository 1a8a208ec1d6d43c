pub mod Adding
pub mod Entries
pub mod Fields
pub mod Numbers
