pub mod FullCards
pub mod Fixed
pub mod Layout
pub mod Ordering
pub mod Homes
pub mod Laying
pub mod Reading
pub mod Numbers
