pub mod Sizes
pub mod Walk
pub mod Least
pub mod Widths
pub mod Stages
