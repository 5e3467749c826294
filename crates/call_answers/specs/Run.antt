-- The whole of a call for a run: its answer, and the bytes of every buffer lent.
use Rattle.std.specs.Prelude.{Err, List, Ok, Result, ℕ}
use Rattle.language.specs.Calls as L
use Rattle.language.specs.Stops.{halted}
use Rattle.language.specs.declared.refusals.Refusal.{Refusal}
use Rattle.call_answers.specs.declared.ran.Tally.{Tally}

abbrev pub answered : Result Tally Refusal → L.RunAnswer
answered (Ok t) = L.ran t.completed t.conflicts (halted t.stop)
answered (Err n) = L.run_refused n

abbrev pub call : Result Tally Refusal → List ℕ → List ℕ → List ℕ → List ℕ → L.RunCall
call a store kept scratch trace = record { answer = answered a; store = store; record' = kept; scratch = scratch; trace = trace }

-- One that was not refused.
abbrev pub tallied : Tally → List ℕ → List ℕ → List ℕ → List ℕ → L.RunCall
tallied t = call (Ok t)
