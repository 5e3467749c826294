pub mod Described
pub mod Places
pub mod Worth
