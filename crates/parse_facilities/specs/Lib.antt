pub mod Specs
pub mod Listed
pub mod Declares
pub mod Lists
