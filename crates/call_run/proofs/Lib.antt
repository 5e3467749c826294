pub mod RefusalLaws
pub mod CycleLaws
