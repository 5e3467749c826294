pub mod ChainLaws
pub mod SideLaws
