pub mod Actions
pub mod Nodes
pub mod Placed
pub mod References
