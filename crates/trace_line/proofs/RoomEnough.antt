-- The buffer of the trace program has room for every line of output, and for the one that ends a run after it.
use mathlib.Core.Bool.{Bool, true, false, cond}
use mathlib.Core.List.{List, [], ◌∷◌}
use mathlib.Core.Path.{◌≡◌, refl}
use Prim.Native.Nat.{ℕ, suc, ◌+◌, ◌*◌, ◌/◌, ◌<◌, ◌≤◌}
use native.Mathlib.Omega.{arith}
use borrow.Author.Tests.{leb-false, leb-true, ne_eqb}
use lib.Dec.{leb}
use lib.ListN.{get_or-eq_default, get_or, length}
use Rattle.language.specs.Decode.{decode}
use Rattle.language.specs.Description.{Facility, facility_at, is_computed, no_facility, state_at, word_count, word_length}
use Rattle.language.specs.Image.{passes}
use Rattle.language.specs.Layout.{facility_bytes, store_size_of, word_bytes}
use Rattle.language.specs.Trace.{shown}
use Rattle.about_images.specs.Legal.{few-facilities}
use Rattle.image_lookups.proofs.PassLaws.{legal-so, range-so}
use Rattle.run_soundness.proofs.PassedLaws.{passed-size}
use Rattle.trace_output.specs.Room.{line_room}
use Rattle.trace_line.specs.Turns.{end_room, printed_room, turn_room}

-- A facility that is shown has one word, whose bits are in the store.
bits-stored : (f : Facility) → cond (shown f) (2 + length f.name + word_length f) 0 ≤ 2 + length f.name + 8 * facility_bytes f
unfolding facility_bytes word_bytes word_count
bits-stored f = by_kind (is_computed f.kind)
  where
    by-dimensions : (b : Bool) → leb f.dimensions 1 ≡ b
        → cond b (2 + length f.name + word_length f) 0 ≤ 2 + length f.name + 8 * (word_count f * ((word_length f + 7) / 8))
    by-dimensions true t =
        let other : f.dimensions ≡ 2 → ⊥ = λ e. absurd (omega (arith, leb-true f.dimensions 1 t, e)) in
        rw (ne_eqb f.dimensions 2 other) (omega arith)
    by-dimensions false t = omega arith

    by_kind : (b : Bool)
        → cond (cond b false (leb f.dimensions 1)) (2 + length f.name + word_length f) 0 ≤ 2 + length f.name + 8 * cond b 0 (word_count f * ((word_length f + 7) / 8))
    by_kind true = omega arith
    by_kind false = by-dimensions (leb f.dimensions 1) refl

line-most : (fs : List Facility) → ((n : ℕ) → n < length fs → length (get_or fs n no_facility).name < 256) → line_room fs ≤ 257 * length fs + 8 * store_size_of fs
unfolding line_room store_size_of
line-most [] h = omega arith
line-most (f ∷ fs) h = omega (arith, bits-stored f, h 0 (omega arith), line-most fs (λ n l. h (suc n) (omega arith)))

module _ (image : List ℕ) (passed : passes image ≡ true) (state : ℕ) where
  label-most : length (state_at (decode image) state).name < 256
  unfolding state_at
  label-most = by-test (leb (length (decode image).states) state) refl
    where
      by-test : (b : Bool) → leb (length (decode image).states) state ≡ b → length (state_at (decode image) state).name < 256
      by-test true t = rw (get_or-eq_default (decode image).states _ (leb-true (length (decode image).states) state t)) (omega arith)
      by-test false t = ((range-so image passed).states state (leb-false (length (decode image).states) state t)).name

  -- A label and 256 names of at most 255 letters, and the bits of 16,384 bytes.
  pub room-enough : turn_room (decode image) state + end_room ≤ printed_room
  unfolding turn_room facility_at
  room-enough =
      omega (
        arith,
        label-most,
        line-most (decode image).facilities (λ n l. ((range-so image passed).facilities n l).name),
        few-facilities (decode image) (legal-so image passed),
        passed-size image passed,
      )
