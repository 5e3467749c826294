pub mod RoomEnough
pub mod SectionLaws
pub mod TurnLaws
