pub mod Padded
pub mod Ranges
pub mod Iccids
pub mod Eids
pub mod Inside
pub mod Reading
