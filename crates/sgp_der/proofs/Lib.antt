pub mod Lengths
pub mod Elements
pub mod Values
pub mod Fields
