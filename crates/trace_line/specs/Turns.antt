-- What a line of input adds to the output, so that the lines together are the trace (language, Trace).
use Rattle.std.specs.Prelude.{Bool, true, false, List, [], ◌∷◌, ◌++◌, ◌≡◌, ℕ, suc, ◌+◌, ◌≤◌, length}
use Rattle.language.specs.Calls.{CycleCall}
use Rattle.language.specs.Decode.{decode}
use Rattle.language.specs.Description.{Description, state_at}
use Rattle.language.specs.Image.{passes}
use Rattle.language.specs.Layout.{store_size}
use Rattle.language.specs.RecordBytes.{record_from}
use Rattle.language.specs.Trace.{after_call, run_lines}
use Rattle.trace_output.specs.Adds.{Adds}
use Rattle.trace_output.specs.Room.{line_room}

-- An image that passes, with a store of its size.
abbrev pub Ready : List ℕ → List ℕ → Type 0
Ready image store = (passes image ≡ true) × (length store ≡ store_size (decode image))

-- Room for any line of output of a description in a state.
unfoldable pub turn_room : Description → ℕ → ℕ
turn_room d state = 29 + length (state_at d state).name + line_room d.facilities

-- Room for the line that ends a run: its word, a number of at most 20 digits, and LF.
abbrev pub end_room : ℕ
end_room = 25

-- Room for both, in any state of any image that passes.
abbrev pub printed_room : ℕ
printed_room = 200000

-- What follows, if the run goes on.
abbrev pub goes_on : Bool → List ℕ → List ℕ
goes_on true rest = rest
goes_on false rest = []

-- A call of a cycle on the record R, whatever is printed after it: the text added to B from `at` on gives C up to `end`.
pub record Carried (image : List ℕ) (number : ℕ) (R : List ℕ) (call : CycleCall) (on : Bool) (S' R' B : List ℕ) (at : ℕ) (C : List ℕ) (end : ℕ) : Type 0 where
  pub text : List ℕ
  pub adds : Adds text B at C end
  pub short : length text ≤ turn_room (decode image) (record_from R).state
  pub same : (rest : List ℕ → List ℕ → List ℕ) → after_call image (decode image) number (record_from R).state rest call ≡ text ++ goes_on on (rest S' R')

-- A line of input on the store S and the record R.
pub record Turned (image line : List ℕ) (number : ℕ) (S R : List ℕ) (on : Bool) (S' R' B : List ℕ) (at : ℕ) (C : List ℕ) (end : ℕ) : Type 0 where
  pub text : List ℕ
  pub adds : Adds text B at C end
  pub short : length text ≤ turn_room (decode image) (record_from R).state
  pub same : (done : ℕ) (ls : List (List ℕ)) → number ≡ suc done
      → run_lines image (decode image) (line ∷ ls) done S R ≡ text ++ goes_on on (run_lines image (decode image) ls number S' R')
