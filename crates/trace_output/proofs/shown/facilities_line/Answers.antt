use mathlib.Core.Bool.{false}
use mathlib.Core.Path.{◌≡◌, refl, ap, ◌∙◌}
use Prim.Native.Nat.{suc, ◌+◌, ◌≤◌, ◌<◌}
use native.Mathlib.Omega.{arith}
use lib.ListN.{length}
use Rattle.language.specs.Description.{Facility, facility_at, is_computed}
use Rattle.language.specs.Layout.{place_in}
use Rattle.image_sections.specs.Declarations.{facility_meant}
use Rattle.trace_output.proofs.LineLoop.{has_word, printed-all, printed-first, printed-more}
use Rattle.trace_output.proofs.NameLoop.{facility-named, offset-first, offset-next}
use Rattle.trace_output.proofs.shown.facilities_line.Goals as goal

pub loop-n-init : goal.loop-n-init
loop-n-init c =
    (omega arith, offset-first _, refl, λ d E h k r. printed-first d _ _ _)

pub overflow_add-offset : goal.overflow_add-offset
overflow_add-offset c = omega arith

pub loop-n-preserved : goal.loop-n-preserved
loop-n-preserved c =
    let u : c.loop-n.n + 1 ≡ suc c.loop-n.n = omega arith in (
      omega arith,
      offset-next c.args.section.now c.loop-n.n c.facility_at-f.result c.facility_at-f.ensures c.loop-n-test.true c.loop-n.invariant.1,
      c.facility-end.ensures.0 ∙ c.loop-n.invariant.2,
      λ d E h k r.
          let n : c.loop-n.n < length d.facilities = rw h.count c.loop-n-test.true in
          let e : facility_at d c.loop-n.n ≡ facility_meant c.part.result.now c.facility_at-f.result = facility-named c.args.section.now c.loop-n.n c.facility_at-f.result c.facility_at-f.ensures d c.args.names.now c.part.result.now k c.loop-n.invariant.1 c.part.ensures in
          let q : is_computed (facility_meant c.part.result.now c.facility_at-f.result).kind ≡ false → c.facility_at-f.result.place ≡ place_in d.facilities c.loop-n.n = λ z. c.facility_at-f.ensures.place ∙ h.places c.loop-n.n n (ap (λ (y : Facility). is_computed y.kind) e ∙ z) in
          rw u (printed-more (facility_meant c.part.result.now c.facility_at-f.result) c.facility_at-f.result.place (c.loop-n.invariant.3 d E h k r) n e q (c.facility-end.ensures.1 (has_word d c.args.store.now c.loop-n.n (facility_meant c.part.result.now c.facility_at-f.result) c.facility_at-f.result.place n e r q))),
    )

pub shape_of-out : goal.shape_of-out
shape_of-out c = c.loop-n.invariant.2

pub returns : goal.returns
returns c = (
  c.loop-n.invariant.2,
  λ d E h k r.
      let n : length d.facilities ≤ c.loop-n.n = rw h.count c.loop-n-test.false in
      printed-all (c.loop-n.invariant.3 d E h k r) n,
)
