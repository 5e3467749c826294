pub mod ArmLaws
pub mod BracketLaws
pub mod Falling
pub mod PartLaws
pub mod StartLaws
pub mod TailLaws
pub mod TermLaws
