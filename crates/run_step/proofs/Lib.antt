pub mod Finished
pub mod Joined
pub mod StepLaws
