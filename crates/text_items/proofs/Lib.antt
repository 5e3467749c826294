pub mod Lookup
pub mod OneByOne
pub mod Based
pub mod Begin
