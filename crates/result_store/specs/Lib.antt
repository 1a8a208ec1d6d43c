pub mod Stores
pub mod Fields
pub mod Calls
pub mod Laws
