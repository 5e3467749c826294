use mathlib.Core.Path.{sym, ◌∙◌}
use native.Mathlib.Omega.{arith}
use borrow.Author.Tests.{not-false, not-true}
use Rattle.image_lookups.proofs.NameLaws.{facility-below, facility-found, facility-none, facility-refused}
use Rattle.image_lookups.proofs.named.facility_part.Goals as goal

pub returns-then-not-passed : goal.returns-then-not-passed
returns-then-not-passed c =
    facility-refused c.args.image.now c.args.n (sym c.requires ∙ not-true _ c.if-not-passed.true-raw)

pub returns-then-facilities-n : goal.returns-then-facilities-n
returns-then-facilities-n c =
    facility-none c.args.image.now c.args.n (sym c.requires ∙ not-false _ c.if-not-passed.false-raw) (rw (← c.section-facilities.ensures) c.if-facilities-n.true)

pub found-requires : goal.found-requires
found-requires c =
    facility-below c.args.image.now (sym c.requires ∙ not-false _ c.if-not-passed.false-raw) c.args.n c.section-facilities.ensures (omega (arith, c.if-facilities-n.false)) c.facility_part.ensures

pub returns : goal.returns
returns c =
    c.found.ensures ∙ facility-found c.args.image.now (sym c.requires ∙ not-false _ c.if-not-passed.false-raw) c.args.n c.section-facilities.ensures (omega (arith, c.if-facilities-n.false)) c.facility_part.ensures
