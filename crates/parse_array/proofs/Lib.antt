pub mod NodesAdded
pub mod PlaceLaws
pub mod Regions
