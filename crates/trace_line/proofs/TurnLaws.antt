-- A cycle's text by its answer. Assumes nothing.
use Rattle.std.specs.Prelude.{Err, Ok, Result}
use mathlib.Core.Bool.{true, false}
use mathlib.Core.List.{List, ◌++◌, append-nil}
use mathlib.Core.Path.{◌≡◌, sym, ap, ◌∙◌}
use Prim.Native.Nat.{ℕ, ◌+◌, ◌^◌, ◌<◌, ◌≤◌}
use native.Mathlib.Omega.{arith}
use lib.ListN.{length, length-append}
use Rattle.language.specs.Calls.{CycleCall}
use Rattle.language.specs.Decode.{decode, number_at}
use Rattle.language.specs.Description.{Description}
use Rattle.language.specs.RecordBytes.{record_from}
use Rattle.language.specs.Refusals.{refusal_number}
use Rattle.language.specs.Scan.{bytes}
use Rattle.language.specs.Stops.{stop_number}
use Rattle.language.specs.Trace.{after_call, cycle_line, decimal, line_end, refused_line, stop_line}
use Rattle.call_answers.specs.Cycle.{call}
use Rattle.call_answers.specs.declared.cycled.Halt.{Halt}
use Rattle.call_answers.specs.declared.cycled.Halt.TheVariants as A
use Rattle.language.specs.declared.refusals.Refusal.{Refusal}
use Rattle.language.specs.declared.stops.Stop.{Stop}
use Rattle.trace_output.proofs.AddsLaws.{adds-as}
use Rattle.trace_output.proofs.LineRoom.{cycle-short, decimal-short}
use Rattle.trace_output.specs.Adds.{Adds}
use Rattle.trace_line.specs.Turns.{Carried, turn_room}

-- ---- Room.

pub numbered-short : (word : List ℕ) (n : ℕ) → n < 2 ^ 64 → length (word ++ (decimal n ++ line_end)) ≤ length word + 21
numbered-short word n h = omega (arith, length-append word (decimal n ++ line_end), length-append (decimal n) line_end, decimal-short n h)

module _ (d : Description) (state : ℕ) where
  short-stop : (n : Stop) → stop_number n < 2 ^ 64 → length (stop_line n) ≤ turn_room d state
  unfolding turn_room bytes
  short-stop n h = omega (arith, numbered-short (bytes "stop ") (stop_number n) h)

  pub short-refused : (n : Refusal) → refusal_number n < 2 ^ 64 → length (refused_line n) ≤ turn_room d state
  unfolding turn_room bytes
  short-refused n h = omega (arith, numbered-short (bytes "refused ") (refusal_number n) h)

  short-cycle : (number : ℕ) (B : List ℕ) → number < 2 ^ 64 → length (cycle_line d number state B) ≤ turn_room d state
  unfolding turn_room
  short-cycle number B h = omega (arith, cycle-short d number state B h)

-- ---- By the answer of the cycle.

abbrev after : List ℕ → ℕ → List ℕ → (List ℕ → List ℕ → List ℕ) → CycleCall → List ℕ
after image number R rest c = after_call image (decode image) number (record_from R).state rest c

module _ {image : List ℕ} {number : ℕ} {R : List ℕ} {c : CycleCall} {S' R' B : List ℕ} {at : ℕ} {C : List ℕ} {end : ℕ} (a : Result ℕ Halt) (scratch : List ℕ) (is : call a S' R' scratch ≡ c) where
  pub carried_on : number < 2 ^ 64 → (n : ℕ) → a ≡ Ok n → (state : ℕ) → state ≡ number_at 4 4 R → Adds (cycle_line (decode image) number state S') B at C end → Carried image number R c true S' R' B at C end
  unfolding record_from
  carried_on h n e state q x = record {
    text = cycle_line (decode image) number (record_from R).state S';
    adds = adds-as x (ap (λ (s : ℕ). cycle_line (decode image) number s S') q);
    short = short-cycle (decode image) (record_from R).state number S' h;
    same = λ rest. ap (after image number R rest) (sym is ∙ ap (λ (b : Result ℕ Halt). call b S' R' scratch) e);
  }

  pub carried-stop : (n : Stop) → stop_number n < 2 ^ 64 → a ≡ Err (A.Stopped n) → Adds (stop_line n) B at C end → Carried image number R c false S' R' B at C end
  carried-stop n h e x = record {
    text = stop_line n;
    adds = x;
    short = short-stop (decode image) (record_from R).state n h;
    same = λ rest. ap (after image number R rest) (sym is ∙ ap (λ (b : Result ℕ Halt). call b S' R' scratch) e) ∙ sym (append-nil (stop_line n));
  }

  pub carried-refused : (n : Refusal) → refusal_number n < 2 ^ 64 → a ≡ Err (A.Refused n) → Adds (refused_line n) B at C end → Carried image number R c false S' R' B at C end
  carried-refused n h e x = record {
    text = refused_line n;
    adds = x;
    short = short-refused (decode image) (record_from R).state n h;
    same = λ rest. ap (after image number R rest) (sym is ∙ ap (λ (b : Result ℕ Halt). call b S' R' scratch) e) ∙ sym (append-nil (refused_line n));
  }
