pub mod Folding
pub mod EimSteps
pub mod IpaSteps
pub mod Ending
