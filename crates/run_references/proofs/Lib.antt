pub mod ArmLaws
pub mod BoundLaws
pub mod ConstantLaws
pub mod EvalLaws
pub mod PlaceLaws
pub mod SectionLaws
