pub mod Meaning
pub mod Noted
