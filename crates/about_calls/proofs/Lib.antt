-- ---- Every record that a run can work out has one length, worked out before; no part is longer than what it is a part of.
pub mod Settled
pub mod EachLength
pub mod EachLengthExamples
pub mod Substrings
-- ---- A conditional has an arm for each value of its condition.
pub mod ArmAlways
pub mod ArmExamples
-- ---- From a text to its cycles.
pub mod TextToCycles
-- ---- How long an image can be.
pub mod ImageRoom
-- ---- No wrong module meets them.
pub mod ShutOut
