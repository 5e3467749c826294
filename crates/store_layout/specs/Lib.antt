pub mod Bits
pub mod Layout
pub mod Parts
pub mod Slices
pub mod Spare
pub mod InBytes
pub mod Examples
