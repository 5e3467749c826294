pub mod BySections
pub mod InSlices
pub mod Stated
