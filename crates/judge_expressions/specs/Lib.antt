pub mod Filled
pub mod Judging
