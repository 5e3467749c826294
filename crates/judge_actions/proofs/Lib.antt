pub mod FormLaws
pub mod JoinLaws
pub mod ListLaws
pub mod SimpleLaws
pub mod StoreLaws
