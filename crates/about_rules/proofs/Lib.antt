-- ---- How long a record is, by a relation of its own.
pub mod LongIsFine
pub mod OperatorsLong
pub mod FineIsLong
pub mod LengthsJudged
pub mod LengthExamples
-- ---- Which lists of actions keep the rules, by a relation of its own.
pub mod LeftSides
pub mod RightIsFine
pub mod FineIsRight
pub mod ActionsJudged
pub mod LengthsWhole
pub mod ActionExamples
