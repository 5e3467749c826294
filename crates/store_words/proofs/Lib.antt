pub mod PartLaws
pub mod SameStore
pub mod Landing
pub mod Alike
