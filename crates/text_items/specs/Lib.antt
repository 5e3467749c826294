pub mod Meaning
pub mod Tables
pub mod Digits
