-- What the definitions promise of every call, in bytes and in full; and what follows from the contracts of the public calls.
-- ---- What passes the check, in terms of texts. Read PassesExactly.
pub mod PlainTexts
pub mod PassesExactly
-- ---- A cycle that is not refused completes, or stops for the first of 01's conditions that holds.
pub mod StopsFirst
pub mod EachCycle
-- ---- Every record that a run can work out has one length, worked out before; no part is longer than what it is a part of. Read WorkedOut and EachLength.
pub mod WorkedOut
pub mod EveryAction
pub mod PartsStand
pub mod Settled
pub mod NoOther
pub mod MoreKnown
pub mod OnStores
pub mod EachLength
pub mod Substrings
-- ---- A conditional has an arm for each value of its condition.
pub mod ArmAlways
-- ---- What a completed cycle did: its delayed stores, and what no store names.
pub mod DelayedWaits
-- ---- What has no bearing: bytes beyond store and record, and past the image.
pub mod Beyond
pub mod Tail
-- ---- From a text to its cycles.
pub mod EndToEnd
pub mod TextToCycles
-- ---- How long an image can be.
pub mod ImageRoom
-- ---- Each call has one outcome, and so has each exported one; former contents have no bearing.
pub mod OneOutcome
pub mod Exported
-- ---- A run goes on to its end or to a stop.
pub mod RunEnds
-- ---- No wrong module meets them.
pub mod ShutOut
-- ---- From texts to their cycles, worked out.
pub mod CycleExamples
