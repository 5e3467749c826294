pub mod Heads
pub mod Listed
pub mod Lists
pub mod Sections
