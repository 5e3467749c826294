pub mod ReadsExactly
-- ---- How words are spelled, and that scanning takes the longest.
pub mod SpelledBytes
pub mod SpelledSymbols
pub mod SpelledConstants
pub mod LongestMatch
pub mod SpellingExamples
