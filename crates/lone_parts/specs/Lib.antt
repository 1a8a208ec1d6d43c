pub mod Folds
pub mod Eims
pub mod Ipas
pub mod Starting
pub mod Runs
