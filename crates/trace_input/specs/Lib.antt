pub mod Lines
pub mod Stimulus
