pub mod Sections
pub mod Standing
pub mod NearTexts
pub mod Gotos
