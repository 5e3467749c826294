pub mod Phrases
