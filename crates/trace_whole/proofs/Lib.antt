pub mod BegunLaws
pub mod FedLaws
pub mod LineLaws
pub mod RoomyLaws
pub mod Whole
