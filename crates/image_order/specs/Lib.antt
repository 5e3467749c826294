pub mod Edges
pub mod Holds
pub mod Parts
