use mathlib.Core.Path.{sym, ap, ◌∙◌}
use native.Mathlib.Omega.{arith}
use borrow.Author.Count.{below_more}
use borrow.Author.Tests.{not-false, not-true}
use Rattle.language.specs.Description.{facility_at}
use Rattle.language.specs.Layout.{facility_bytes}
use Rattle.image_records.proofs.ByteLaws.{same_true}
use Rattle.image_order.proofs.DeclaredLaws.{facility-is}
use Rattle.image_form.proofs.RowLaws.{facilities-differ, facilities-same, place-first, place-next, record-test}
use Rattle.image_form.proofs.rows.facilities_right.Goals as goal

pub loop-n-init : goal.loop-n-init
loop-n-init c =
    λ d h g. (place-first d c.args.facilities.now h g, λ k l. absurd (omega arith))

pub returns-then-not-facility_right : goal.returns-then-not-facility_right
returns-then-not-facility_right c =
    λ d h g. sym (facilities-differ d c.args.facilities.now h g c.loop-n.n c.loop-n-test.true (sym (record-test d c.args.facilities.now h g c.loop-n.n c.loop-n-test.true (c.loop-n.invariant d h g).0 c.facility_right.ensures) ∙ not-true _ c.if-not-facility_right.true-raw))

pub loop-n-preserved : goal.loop-n-preserved
loop-n-preserved c =
    λ d h g. (place-next d c.args.facilities.now h g c.loop-n.n c.loop-n-test.true (c.loop-n.invariant d h g).0 (ap facility_bytes (sym (facility-is d c.args.facilities.now c.loop-n.n h c.facility_at.ensures))) (c.place_after-place.ensures.1 (facility_at d c.loop-n.n).name), below_more _ _ (c.loop-n.invariant d h g).1 (same_true _ _ (sym (record-test d c.args.facilities.now h g c.loop-n.n c.loop-n-test.true (c.loop-n.invariant d h g).0 c.facility_right.ensures) ∙ not-false _ c.if-not-facility_right.false-raw)))

pub returns : goal.returns
returns c =
    λ d h g. sym (facilities-same d c.args.facilities.now h g c.requires (λ k l. (c.loop-n.invariant d h g).1 k (omega (arith, c.loop-n-test.false))))
