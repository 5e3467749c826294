pub mod Tests
pub mod Fits
pub mod Plain
pub mod Differences
pub mod OneAnswer
pub mod KindLaws
