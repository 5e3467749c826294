pub mod WordPut
pub mod RegisterLaws
pub mod FinishLaws
