pub mod Declarations
pub mod Header
pub mod Names
