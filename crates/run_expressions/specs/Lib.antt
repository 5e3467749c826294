pub mod Chains
pub mod Images
pub mod Sides
