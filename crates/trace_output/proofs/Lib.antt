pub mod AddsLaws
pub mod BitLaws
pub mod DecimalLaws
pub mod LabelLaws
pub mod LineLoop
pub mod LineRoom
pub mod NameLoop
pub mod TextLaws
