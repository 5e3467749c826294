-- Every description in legal form is that of a legal text: read FromDescriptions. That text stands in bytes: read WrittenTexts. And how much room the records and names of a text take. The rest leads to it.

-- ---- Expressions.
pub mod Derivations
pub mod Constants
pub mod Placed
pub mod References
pub mod Rebuilt
-- ---- Lists of actions.
pub mod Lists
-- ---- Names and sections.
pub mod Names
pub mod Declarations
pub mod Facilities
pub mod Operations
pub mod States
pub mod Words
-- ---- All of it.
pub mod FromDescriptions
-- ---- Words and trees in bytes, places apart.
pub mod WrittenWords
pub mod SignedWords
pub mod Unplaced
pub mod Moved
pub mod SameDescription
pub mod WrittenTexts
pub mod WrittenExamples
-- ---- How much room a text's records and names take.
pub mod RecordRoom
pub mod NameRoom
