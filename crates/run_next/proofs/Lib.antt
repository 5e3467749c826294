pub mod NextLaws
pub mod RegisterLaws
