pub mod Passing
pub mod Keeping
pub mod Standing
pub mod Rising
pub mod Testing
