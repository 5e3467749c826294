-- THE PIECES TOGETHER ARE THE TRACE: what the bytes of the input print one after the other, and its end, is all that is printed. Assumes nothing.
use Rattle.std.proofs.Common.{◌≡◌, ℕ, suc, ◌^◌, ◌<◌, true, false, List, [], ◌∷◌, ◌++◌, take, ap, ◌∙◌, append-nil}
use Rattle.language.specs.Decode.{decode}
use Rattle.language.specs.InputLines.{lines_of}
use Rattle.language.specs.Trace.{printed, run_lines}
use Rattle.trace_whole.specs.Begins.{Runs}
use Rattle.trace_whole.specs.Roomy.{Told}
use Rattle.trace_whole.specs.declared.input.State.{State}

-- The bytes that are left after the line so far and `done` cycles: each as `byte` owes it until the run ends, or the end of the input as `finish` owes it; and all that they print.
pub data Written (image : List ℕ) : List ℕ → List ℕ → ℕ → List ℕ → List ℕ → List ℕ → Type 0 where
  ended : {l S R Y : List ℕ} {done : ℕ} → run_lines image (decode image) (lines_of l) done S R ≡ Y → Written image [] l done S R Y
  last : {X l S R S' R' L C : List ℕ} {b done : ℕ} {r : State} → suc done < 2 ^ 64 → Told image l b done S R r S' R' L C → r.on ≡ false → Written image (b ∷ X) l done S R (take r.end C)
  more : {X l S R S' R' L C Y : List ℕ} {b done : ℕ} {r : State} → suc done < 2 ^ 64 → (t : Told image l b done S R r S' R' L C) → r.on ≡ true → Written image X t.line r.done S' R' Y
      → Written image (b ∷ X) l done S R (take r.end C ++ Y)

pub written_all : {image X l S R Y : List ℕ} {done : ℕ} → Written image X l done S R Y → run_lines image (decode image) (lines_of (l ++ X)) done S R ≡ Y
written_all {image} {l = l} {S = S} {R = R} {done = done} (ended e) = ap (λ (m : List ℕ). run_lines image (decode image) (lines_of m) done S R) (append-nil l) ∙ e
written_all {X = b ∷ X} (last {C = C} {r = r} h t o) = t.same h X ∙ rw o (append-nil (take r.end C))
written_all {X = b ∷ X} (more {C = C} {r = r} h t o w) = t.same h X ∙ rw o (ap (λ (Z : List ℕ). take r.end C ++ Z) (written_all w))

-- From a legal text on.
pub whole-trace : {text input : List ℕ} {n size space : ℕ} {I S R Y : List ℕ} → Runs text n size space I S R → Written (take n I) input [] 0 (take size S) R Y → printed text input ≡ Y
whole-trace {input = input} r w = r.same (lines_of input) ∙ written_all w
