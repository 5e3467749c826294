pub mod Telling
pub mod Ranges
pub mod Extents
