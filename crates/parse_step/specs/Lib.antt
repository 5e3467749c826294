pub mod Answers
pub mod Course
pub mod Gained
pub mod Pays
pub mod Says
pub mod Taken
