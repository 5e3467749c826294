pub mod ConstantLaws
pub mod RecordLaws
