pub mod FaultLaws
pub mod FacilityLaws
pub mod MemoryLaws
pub mod NotedLaws
pub mod OperationLaws
pub mod StateLaws
pub mod ValueLaws
pub mod WantedLaws
