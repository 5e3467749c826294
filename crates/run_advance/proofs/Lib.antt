pub mod CarryLaws
pub mod CopyLaws
pub mod SettledLaws
pub mod WorkLaws
