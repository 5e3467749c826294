pub mod Table
pub mod ByClass
pub mod Counting
pub mod Matching
pub mod LowBits
