pub mod Begins
pub mod Fed
pub mod Roomy
