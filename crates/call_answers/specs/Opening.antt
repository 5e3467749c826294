-- The whole of a call for opening: its answer, and the bytes of both buffers lent.
use Rattle.std.specs.Prelude.{Err, List, Ok, Result, ℕ}
use Rattle.language.specs.Calls as L
use Rattle.language.specs.declared.refusals.Refusal.{Refusal}

abbrev pub answered : Result (Unit {0}) Refusal → L.OpenAnswer
answered (Ok _) = L.opened
answered (Err n) = L.refused n

abbrev pub called : Result (Unit {0}) Refusal → List ℕ → List ℕ → L.OpenCall
called a store kept = record { answer = answered a; store = store; record' = kept }
