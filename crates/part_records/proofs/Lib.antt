pub mod EimInputs
pub mod IpaInputs
pub mod Outputs
pub mod OutputLaws
