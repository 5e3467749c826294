-- In a buffer that has room for it, what is printed is what stands before its end. Assumes nothing.
use Rattle.std.specs.Prelude.{Err, Ok, Result}
use Rattle.std.proofs.Common.{◌≡◌, ℕ, ◌+◌, ◌^◌, ◌<◌, ◌≤◌, true, List, length, take, sym, ◌∙◌, arith}
use Rattle.language.specs.Decode.{decode}
use Rattle.language.specs.Image.{passes}
use Rattle.language.specs.InputLines.{lines_of}
use Rattle.language.specs.RecordBytes.{record_from}
use Rattle.language.specs.Trace.{run_lines, trace}
use Rattle.trace_line.proofs.RoomEnough.{room-enough}
use Rattle.trace_line.specs.Turns.{printed_room}
use Rattle.trace_output.specs.Adds.{Adds}
use Rattle.trace_whole.specs.Begins.{Begins, Refuses, refused_room}
use Rattle.trace_whole.specs.Fed.{Ended, Fed}
use Rattle.trace_whole.specs.Roomy.{Prints, Told}
use Rattle.trace_whole.specs.declared.begun.Begun.{Begun}
use Rattle.trace_whole.specs.declared.input.State.{State}

all_there : {X B C : List ℕ} {end : ℕ} → Adds X B 0 C end → length X ≤ length B → X ≡ take end C
all_there a h = sym (a.roomy (omega (arith, h))).text

refused-whole : {text B C : List ℕ} {end : ℕ} → Refuses text B C end → refused_room ≤ length B → (lines : List (List ℕ)) → trace text lines ≡ take end C
refused-whole r h lines = r.same lines ∙ all_there r.adds (omega (arith, r.short))

pub begun-whole : (text I S R B C : List ℕ) (space : ℕ) (r : Result Begun ℕ) → refused_room ≤ length B → Begins text space r I S R B C → Prints text space r I S R C
begun-whole text I S R B C space (Ok b) h r = r
begun-whole text I S R B C space (Err end) h r = refused-whole r h

module _ (image : List ℕ) (passed : passes image ≡ true) {l S R B C : List ℕ} (room : printed_room ≤ length B) where
  pub fed-whole : {b : ℕ} {s r : State} {S' R' L : List ℕ} → s.end ≡ 0 → Fed image l b s S R B r S' R' L C → Told image l b s.done S R r S' R' L C
  fed-whole z f =
      let a : Adds f.text B 0 C _ = rw z at f.adds in
      let w = all_there a (omega (arith, f.short, room-enough image passed (record_from R).state)) in
      record { line = f.line; held = f.held; same = λ h rest. rw (← w) (f.same h rest) }

  pub ended-whole : {s : State} {end : ℕ} → s.end ≡ 0 → Ended image l s S R B C end → s.done + length l < 2 ^ 64 → run_lines image (decode image) (lines_of l) s.done S R ≡ take end C
  ended-whole z e h =
      let a : Adds e.text B 0 C _ = rw z at e.adds in
      e.same h ∙ all_there a (omega (arith, e.short, room-enough image passed (record_from R).state))
