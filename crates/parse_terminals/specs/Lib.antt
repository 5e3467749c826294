pub mod Inputs
pub mod Functions
