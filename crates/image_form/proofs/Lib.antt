pub mod CountLaws
pub mod FormLaws
pub mod LabelLaws
pub mod RowLaws
pub mod ShapeLaws
pub mod DepthLaws
