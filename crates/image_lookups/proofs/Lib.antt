pub mod NameLaws
pub mod NamesThere
pub mod PassLaws
pub mod PlaceLaws
