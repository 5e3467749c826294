-- What is printed into a buffer that has room for all of it: the bytes before its end.
use Rattle.std.specs.Prelude.{Err, Ok, Result, ◌≡◌, ℕ, suc, ◌^◌, ◌<◌, List, ◌∷◌, ◌++◌, take}
use Rattle.language.specs.Decode.{decode}
use Rattle.language.specs.InputLines.{lines_of}
use Rattle.language.specs.Trace.{run_lines, trace}
use Rattle.trace_input.specs.Lines.{Held}
use Rattle.trace_line.specs.Turns.{goes_on}
use Rattle.trace_whole.specs.Begins.{Runs}
use Rattle.trace_whole.specs.declared.begun.Begun.{Begun}
use Rattle.trace_whole.specs.declared.input.State.{State}

-- A text: it runs, or its refusal is all that is printed.
abbrev pub Prints : List ℕ → ℕ → Result Begun ℕ → List ℕ → List ℕ → List ℕ → List ℕ → Type 0
Prints text space (Ok b) I S R C = Runs text b.image b.store space I S R
Prints text space (Err end) I S R C = (lines : List (List ℕ)) → trace text lines ≡ take end C

-- The byte b after the line l so far, after `done` cycles, with the store S and the record R.
pub record Told (image l : List ℕ) (b done : ℕ) (S R : List ℕ) (r : State) (S' R' L C : List ℕ) : Type 0 where
  pub line : List ℕ
  pub held : Held line L r.held
  pub same : suc done < 2 ^ 64 → (rest : List ℕ)
      → run_lines image (decode image) (lines_of (l ++ b ∷ rest)) done S R ≡ take r.end C ++ goes_on r.on (run_lines image (decode image) (lines_of (line ++ rest)) r.done S' R')
