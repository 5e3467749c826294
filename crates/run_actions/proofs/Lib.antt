pub mod ActionLaws
pub mod RunLaws
pub mod SectionLaws
