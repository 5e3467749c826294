pub mod Actions
pub mod Leaves
pub mod Reached
