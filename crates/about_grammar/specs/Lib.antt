-- Courses of the machine over words.
pub mod Following
pub mod Stacks
pub mod Courses
-- Complete: the machine takes what the grammar derives, notion by notion.
pub mod Taking
pub mod Operators
pub mod Levels
pub mod Operations
pub mod Terms
pub mod Subscripts
pub mod References
pub mod Acting
pub mod Conditionals
pub mod Stores
pub mod Actions
pub mod Dimensions
pub mod Reaching
pub mod Declarations
pub mod Declared
pub mod Operated
pub mod States
pub mod Control
pub mod WholeText
pub mod Parts
pub mod Derived
pub mod Complete
-- Stacks that can be completed.
pub mod Ceilingless
pub mod Fine
pub mod FineWays
pub mod StaysFine
pub mod Completing
pub mod CompletingNotions
pub mod Completed
-- What each word counts.
pub mod Counting
pub mod Tale
pub mod Telling
pub mod TellingTerms
pub mod TellingActions
pub mod TellingDeclared
pub mod TellingStates
pub mod Told
pub mod Calm
pub mod Stepping
-- Places of refusals.
pub mod Stops
pub mod Places
pub mod Refusals
-- Sound: what is accepted is derived, notion by notion.
pub mod Accepting
pub mod Peeling
pub mod Finding
pub mod FoundTails
pub mod FoundTerms
pub mod FoundSubscripts
pub mod FoundReferences
pub mod FoundExpressions
pub mod FindingActions
pub mod FoundActions
pub mod FoundConditionals
pub mod FoundDimensions
pub mod FoundTerminals
pub mod FoundDeclarations
pub mod FoundOperations
pub mod FoundStates
pub mod FoundStarts
pub mod FoundText
pub mod Sound
-- All of it in one place, and worked examples.
pub mod ProperWords
pub mod FirstFault
pub mod Tens
pub mod Exact
pub mod Examples
pub mod ExamplesDeeper
pub mod ExamplesPlaces
