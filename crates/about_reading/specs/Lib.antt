-- What reading accepts and refuses; and that scanning takes the longest word: read Spelling and LongestMatch.
pub mod Least
pub mod ReadsExactly
pub mod Standing
pub mod ExpressionsStand
pub mod FaultsStand
pub mod GrammarStands
pub mod WordsStand
-- ---- How words are spelled, and that scanning takes the longest.
pub mod Spelling
