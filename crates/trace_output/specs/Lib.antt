pub mod Adds
pub mod Room
pub mod Texts
