use Rattle.image_lookups.proofs.PlaceLaws.{lookup-found, lookup-none, lookup-refused}
use mathlib.Core.Path.{sym, ◌∙◌}
use native.Mathlib.Omega.{arith}
use borrow.Author.Tests.{not-false, not-true}
use Rattle.image_lookups.proofs.PlaceLaws.{lookup-none, lookup-refused}
use Rattle.image_lookups.proofs.declared.facility.Goals as goal

pub returns-then-not-passed : goal.returns-then-not-passed
returns-then-not-passed c =
    lookup-refused c.args.image.now c.args.n (sym c.requires ∙ not-true _ c.if-not-passed.true-raw)

pub returns-then-facilities-n : goal.returns-then-facilities-n
returns-then-facilities-n c =
    lookup-none c.args.image.now c.args.n (sym c.requires ∙ not-false _ c.if-not-passed.false-raw) (rw (← c.section-facilities.ensures) c.if-facilities-n.true)

pub returns : goal.returns
returns c =
    lookup-found c.args.image.now c.args.n (sym c.requires ∙ not-false _ c.if-not-passed.false-raw) c.section-facilities.ensures (omega (arith, c.if-facilities-n.false)) c.facility_at.ensures
