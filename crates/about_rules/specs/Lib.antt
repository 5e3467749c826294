-- What a legal text gives is in legal form: read LegalTexts. The rules of lengths agree with 01's sentences: read HasLength and ActionsRight, then LengthsJudged, ActionsJudged and LengthsWhole. The rest leads to these.

-- ---- Faults come and go whatever their places.
pub mod Alike
pub mod ExpressionsAlike
pub mod FaultsAlike
-- ---- How long a record is, by a relation of its own.
pub mod HasLength
pub mod WithinBounds
pub mod JudgedFine
-- ---- Which lists of actions keep the rules, by a relation of its own.
pub mod ActionsRight
-- ---- What the grammar and the words give a tree.
pub mod Tidy
pub mod TidyTexts
pub mod Declared
pub mod RightWords
-- ---- Records, runs and counts of a tree.
pub mod Sizes
pub mod Runs
pub mod Counted
pub mod WithinCounts
-- ---- Expressions as trees one after the other.
pub mod Starts
pub mod Trees
pub mod Roots
pub mod ListRoots
pub mod InOrder
-- ---- All of it.
pub mod LegalTexts
