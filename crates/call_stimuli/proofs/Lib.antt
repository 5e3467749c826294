pub mod RunLaws
pub mod SoFarLaws
