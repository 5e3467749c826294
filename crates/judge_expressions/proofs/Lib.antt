pub mod FilledLaws
pub mod WalkLaws
