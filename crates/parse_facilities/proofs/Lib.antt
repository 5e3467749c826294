pub mod NameWords
pub mod Appended
pub mod ListedMore
pub mod Unexpressed
pub mod StoredLaws
pub mod ListWords
pub mod ListLaws
