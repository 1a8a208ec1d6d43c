pub mod Element
pub mod Reading
pub mod Fields
pub mod Number
pub mod Laws
