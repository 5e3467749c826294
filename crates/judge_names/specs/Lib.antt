pub mod Numbered
pub mod Sums
