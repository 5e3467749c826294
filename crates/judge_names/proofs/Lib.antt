pub mod DescribedLaws
pub mod NumberLaws
pub mod OrderLaws
pub mod SumLaws
