pub mod CallLaws
pub mod FirstLaws
