pub mod LineBits
pub mod LineCut
pub mod LineTaken
pub mod LineWord
pub mod LongLines
