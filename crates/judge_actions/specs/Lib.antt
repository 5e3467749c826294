pub mod Acting
pub mod Listed
pub mod Stored
