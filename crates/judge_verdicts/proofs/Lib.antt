pub mod CappedLaws
pub mod KeptLaws
pub mod NotedLaws
pub mod VerdictLaws
