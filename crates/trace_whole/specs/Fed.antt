-- What the bytes of standard input, and its end, add to the output, so that together they are the trace (language, Trace and InputLines).
use Rattle.std.specs.Prelude.{◌≡◌, ℕ, suc, ◌+◌, ◌^◌, ◌<◌, ◌≤◌, List, ◌∷◌, ◌++◌, length}
use Rattle.language.specs.Decode.{decode}
use Rattle.language.specs.InputLines.{lines_of}
use Rattle.language.specs.RecordBytes.{record_from}
use Rattle.language.specs.Trace.{run_lines}
use Rattle.trace_input.specs.Lines.{Held}
use Rattle.trace_line.specs.Turns.{end_room, goes_on, turn_room}
use Rattle.trace_output.specs.Adds.{Adds}
use Rattle.trace_whole.specs.declared.input.State.{State}

-- The byte b after the line l so far, from the state s with the store S and the record R. The text added to B gives C; the line so far is held in L.
pub record Fed (image l : List ℕ) (b : ℕ) (s : State) (S R B : List ℕ) (r : State) (S' R' L C : List ℕ) : Type 0 where
  pub text : List ℕ
  pub adds : Adds text B s.end C r.end
  pub short : length text ≤ turn_room (decode image) (record_from R).state
  pub line : List ℕ
  pub held : Held line L r.held
  pub count : suc s.done < 2 ^ 64 → r.done + length line ≤ suc (s.done + length l)
  pub same : suc s.done < 2 ^ 64 → (rest : List ℕ)
      → run_lines image (decode image) (lines_of (l ++ b ∷ rest)) s.done S R ≡ text ++ goes_on r.on (run_lines image (decode image) (lines_of (line ++ rest)) r.done S' R')

-- The end of the input after the line l so far.
pub record Ended (image l : List ℕ) (s : State) (S R B C : List ℕ) (end : ℕ) : Type 0 where
  pub text : List ℕ
  pub adds : Adds text B s.end C end
  pub short : length text ≤ turn_room (decode image) (record_from R).state + end_room
  pub same : s.done + length l < 2 ^ 64 → run_lines image (decode image) (lines_of l) s.done S R ≡ text

-- The bytes X of the input, from the first on.
pub record Ran (image X S R B : List ℕ) (s : State) (S' R' L C : List ℕ) : Type 0 where
  pub text : List ℕ
  pub adds : Adds text B 0 C s.end
  pub line : List ℕ
  pub held : Held line L s.held
  pub count : s.done + length line ≤ length X
  pub same : (rest : List ℕ)
      → run_lines image (decode image) (lines_of (X ++ rest)) 0 S R ≡ text ++ goes_on s.on (run_lines image (decode image) (lines_of (line ++ rest)) s.done S' R')
