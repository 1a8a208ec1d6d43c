pub mod Values
pub mod Fields
pub mod Elements
pub mod Alone
pub mod Lists
pub mod Laws
pub mod Config
