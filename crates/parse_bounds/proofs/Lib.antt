pub mod Telling
pub mod RangeWords
pub mod RangeLaws
pub mod ExtentWords
pub mod ExtentLaws
