use mathlib.Core.Bool.{true, false}
use mathlib.Core.List.{List}
use mathlib.Core.Path.{◌≡◌, refl, ap, ◌∙◌}
use Prim.Native.Nat.{ℕ, suc, ◌+◌, ◌≤◌, ◌<◌}
use native.Mathlib.Omega.{arith}
use borrow.Author.Tests.{not-false, not-true}
use lib.ListN.{length, length-replicate}
use Rattle.image_sections.specs.Declarations.{facility_meant}
use Rattle.run_references.proofs.PlaceLaws.{facility-known, name_of}
use Rattle.trace_input.specs.Stimulus.{Worded, took_meant}
use Rattle.std.specs.Prelude.{None}
use Rattle.trace_input.proofs.LineWord.{words_long}
use Rattle.trace_input.proofs.LineTaken.{laid-all, laid-first, laid_more, laid-over, laid_stop, took-none}
use Rattle.trace_input.proofs.stimulus.stimulus_of.Goals as goal

pub loop-n-init : goal.loop-n-init
loop-n-init c =
    (omega arith, omega arith, refl, λ d E h r. laid-first d _ _ r)

pub word-requires : goal.word-requires
word-requires c =
    (c.loop-n.invariant.0, c.loop-n.invariant.1)

pub shape_of-stimulus-then-not-word : goal.shape_of-stimulus-then-not-word
shape_of-stimulus-then-not-word c =
    let w : Worded c.input_bits-length.result _ c.loop-n.at c.loop-n.stimulus c.loop-n.place false c.word.new.stimulus = rw (not-true c.word.result c.if-not-word.true-raw) at c.word.ensures in
    ap length c.zero.ensures ∙ (length-replicate {A = ℕ} _ 0 ∙ (w.0 ∙ c.loop-n.invariant.2))

pub returns-then-not-word : goal.returns-then-not-word
returns-then-not-word c =
    λ d E h r.
    let k = name_of h c.loop-n.n c.facility_at.result c.facility_at.ensures in
    let n : c.loop-n.n < length d.facilities = rw h.count c.loop-n-test.true in
    let w : Worded c.input_bits-length.result _ c.loop-n.at c.loop-n.stimulus c.loop-n.place false c.word.new.stimulus = rw (not-true c.word.result c.if-not-word.true-raw) at c.word.ensures in
    ap (λ (X : List ℕ). took_meant None X) c.zero.ensures ∙ took-none _ _ (w.0 ∙ c.loop-n.invariant.2) (laid_stop (c.loop-n.invariant.3 d E h r) (facility_meant k c.facility_at.result) n (facility-known h c.loop-n.n c.facility_at.result c.facility_at.ensures) c.input_bits-length.result (c.input_bits-length.ensures k) c.word.new.stimulus w)

pub overflow_add-at : goal.overflow_add-at
overflow_add-at c =
    let w : Worded c.input_bits-length.result _ c.loop-n.at c.loop-n.stimulus c.loop-n.place true _ = rw (not-false c.word.result c.if-not-word.false-raw) at c.word.ensures in omega (arith, w.in-line)

pub overflow_add-place : goal.overflow_add-place
overflow_add-place c =
    let w : Worded c.input_bits-length.result _ c.loop-n.at c.loop-n.stimulus c.loop-n.place true _ = rw (not-false c.word.result c.if-not-word.false-raw) at c.word.ensures in omega (arith, w.room, c.word_bytes-place.ensures)

pub loop-n-preserved : goal.loop-n-preserved
loop-n-preserved c =
    let w : Worded c.input_bits-length.result _ c.loop-n.at c.loop-n.stimulus c.loop-n.place true _ = rw (not-false c.word.result c.if-not-word.false-raw) at c.word.ensures in
    let s = words_long w in
    let u : c.loop-n.n + 1 ≡ suc c.loop-n.n = omega arith in (
      omega (arith, w.in-line),
      omega (arith, w.room, s, c.word_bytes-place.ensures),
      s ∙ c.loop-n.invariant.2,
      λ d E h r.
          let k = name_of h c.loop-n.n c.facility_at.result c.facility_at.ensures in
          let n : c.loop-n.n < length d.facilities = rw h.count c.loop-n-test.true in
          rw (u, c.word_bytes-place.ensures) (laid_more (c.loop-n.invariant.3 d E h r) (facility_meant k c.facility_at.result) n (facility-known h c.loop-n.n c.facility_at.result c.facility_at.ensures) c.input_bits-length.result (c.input_bits-length.ensures k) w),
    )

pub shape_of-stimulus-then-at-line : goal.shape_of-stimulus-then-at-line
shape_of-stimulus-then-at-line c =
    c.loop-n.invariant.2

pub returns-then-at-line : goal.returns-then-at-line
returns-then-at-line c =
    λ d E h r.
    let n : length d.facilities ≤ c.loop-n.n = rw h.count c.loop-n-test.false in
    laid-all (c.loop-n.invariant.3 d E h r) n c.if-at-line.true

pub shape_of-stimulus : goal.shape_of-stimulus
shape_of-stimulus c =
    ap length c.zero-2.ensures ∙ (length-replicate {A = ℕ} _ 0 ∙ c.loop-n.invariant.2)

pub returns : goal.returns
returns c =
    λ d E h r.
    let n : length d.facilities ≤ c.loop-n.n = rw h.count c.loop-n-test.false in
    ap (λ (X : List ℕ). took_meant None X) c.zero-2.ensures ∙ took-none _ _ c.loop-n.invariant.2 (laid-over (c.loop-n.invariant.3 d E h r) n (omega arith))
