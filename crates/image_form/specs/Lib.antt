pub mod Form
pub mod Names
pub mod Values
pub mod Depths
