pub mod Seen
pub mod Values
