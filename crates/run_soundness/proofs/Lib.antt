pub mod PassedLaws
pub mod RecordLaws
pub mod RegisterLaws
pub mod ReturnLaws
pub mod SizeLaws
pub mod SoundLaws
pub mod WordLaws
