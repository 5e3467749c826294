pub mod Descent
pub mod HeadWords
pub mod TailWords
