pub mod Register
pub mod Stepped
