-- The whole of a call for a cycle: its answer, and the bytes of every buffer lent.
use Rattle.std.specs.Prelude.{Err, List, Ok, Result, ℕ}
use Rattle.language.specs.Calls as L
use Rattle.call_answers.specs.declared.cycled.Halt.{Halt}
use Rattle.call_answers.specs.declared.cycled.Halt.TheVariants as A

abbrev pub answered : Result ℕ Halt → L.CycleAnswer
answered (Ok n) = L.cycled n
answered (Err (A.Stopped n)) = L.stopped_for n
answered (Err (A.Refused n)) = L.refused_for n

abbrev pub call : Result ℕ Halt → List ℕ → List ℕ → List ℕ → L.CycleCall
call a store kept scratch = record { answer = answered a; store = store; record' = kept; scratch = scratch }
