pub mod Brackets
pub mod Ended
pub mod References
