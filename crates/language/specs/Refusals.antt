-- The refusals (01, "Refusal numbers"), which src/refusals.rt lists, and 01's number of each; 11 is none.
use Rattle.std.specs.Prelude.{ℕ}
use Rattle.language.specs.declared.refusals.Refusal.{Refusal}
use Rattle.language.specs.declared.refusals.Refusal.TheVariants.{TextTooLong, BadCharacter, NoContinuation, BadName, BadConstant, BadSubscript, BadLength, BadStore, BadSequencing, CeilingPassed, BufferTooShort, ImageFails, Unsound, BadStimulus}

abbrev pub refusal_number : Refusal → ℕ
refusal_number TextTooLong = 1
refusal_number BadCharacter = 2
refusal_number NoContinuation = 3
refusal_number BadName = 4
refusal_number BadConstant = 5
refusal_number BadSubscript = 6
refusal_number BadLength = 7
refusal_number BadStore = 8
refusal_number BadSequencing = 9
refusal_number CeilingPassed = 10
refusal_number BufferTooShort = 12
refusal_number ImageFails = 13
refusal_number Unsound = 14
refusal_number BadStimulus = 15
