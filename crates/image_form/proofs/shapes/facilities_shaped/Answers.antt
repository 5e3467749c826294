use mathlib.Core.Path.{refl, sym, ap, ◌∙◌}
use Prim.Native.Nat.{ℕ, ◌+◌}
use native.Mathlib.Omega.{arith}
use borrow.Author.Tests.{not-false, not-true}
use lib.ListN.{drop}
use Rattle.language.specs.Canonical.{facilities_right, facility_right, rank_of}
use Rattle.language.specs.Description as D
use Rattle.language.specs.Description.{Description, facility_at}
use Rattle.image_order.proofs.DeclaredLaws.{facility-is}
use Rattle.image_form.proofs.ShapeLaws.{facilities-end, facilities-next, facilities-rank, facilities-shape}
use Rattle.image_form.proofs.shapes.facilities_shaped.Goals as goal
use Rattle.image_form.proofs.shapes.facilities_shaped.Goals.{then-own-rank-via-then-own-rank, then-own-rank-via-else-own-rank+then-not-facility_shaped}

pub loop-n-init : goal.loop-n-init
loop-n-init c =
    λ d h. refl

pub returns-then-own-rank : goal.returns-then-own-rank
returns-then-own-rank c =
    λ d h. let f = facility-is d c.args.facilities.now c.loop-n.n h c.facility_at-f.ensures in
    let k = c.rank_of-own.ensures ∙ ap (λ (x : D.Facility). rank_of x.kind) (sym f) in
    elim c.then-own-rank.branch [
      | then-own-rank-via-then-own-rank w ↦ sym (facilities-rank d c.loop-n.rank c.loop-n.n (omega (arith, h.count, c.loop-n-test.true)) (omega (arith, k, w.if-own-rank.true))) ∙ c.loop-n.invariant d h
      | then-own-rank-via-else-own-rank+then-not-facility_shaped w ↦ sym (facilities-shape d c.loop-n.rank c.loop-n.n (omega (arith, h.count, c.loop-n-test.true)) (omega (arith, k, w.if-own-rank.false)) (ap facility_right f ∙ sym (w.facility_shaped.ensures (facility_at d c.loop-n.n).name) ∙ not-true _ w.if-not-facility_shaped.true-raw)) ∙ c.loop-n.invariant d h
    ]

pub loop-n-preserved : goal.loop-n-preserved
loop-n-preserved c =
    λ d h. let f = facility-is d c.args.facilities.now c.loop-n.n h c.facility_at-f.ensures in
    let k = c.rank_of-own.ensures ∙ ap (λ (x : D.Facility). rank_of x.kind) (sym f) in
    ap (λ (m : ℕ). facilities_right m (drop (c.loop-n.n + 1) d.facilities)) k ∙ sym (facilities-next d c.loop-n.rank c.loop-n.n (omega (arith, h.count, c.loop-n-test.true)) (omega (arith, k, c.if-own-rank.false)) (ap facility_right f ∙ sym (c.facility_shaped.ensures (facility_at d c.loop-n.n).name) ∙ not-false _ c.if-not-facility_shaped.false-raw)) ∙ c.loop-n.invariant d h

pub returns : goal.returns
returns c =
    λ d h. sym (facilities-end d c.loop-n.rank c.loop-n.n (omega (arith, h.count, c.loop-n-test.false))) ∙ c.loop-n.invariant d h
