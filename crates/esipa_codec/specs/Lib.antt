pub mod Assistant
pub mod Eims
pub mod Events
pub mod Examples
pub mod Records
pub mod Ranges
pub mod Spelling
pub mod Reading
