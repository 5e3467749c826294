use mathlib.Core.Path.{sym, ◌∙◌}
use native.Mathlib.Omega.{arith}
use borrow.Author.Tests.{not-false, not-true}
use Rattle.image_lookups.proofs.NameLaws.{state-below, state-found, state-none, state-refused}
use Rattle.image_lookups.proofs.named.state_part.Goals as goal

pub returns-then-not-passed : goal.returns-then-not-passed
returns-then-not-passed c =
    state-refused c.args.image.now c.args.n (sym c.requires ∙ not-true _ c.if-not-passed.true-raw)

pub returns-then-states-n : goal.returns-then-states-n
returns-then-states-n c =
    state-none c.args.image.now c.args.n (sym c.requires ∙ not-false _ c.if-not-passed.false-raw) (rw (← c.section-states.ensures) c.if-states-n.true)

pub found-requires : goal.found-requires
found-requires c =
    state-below c.args.image.now (sym c.requires ∙ not-false _ c.if-not-passed.false-raw) c.args.n c.section-facilities.ensures c.section-operations.ensures c.section-states.ensures c.counts_at-c.ensures (omega (arith, c.if-states-n.false)) c.state_part-part.ensures

pub returns : goal.returns
returns c =
    c.found.ensures ∙ state-found c.args.image.now (sym c.requires ∙ not-false _ c.if-not-passed.false-raw) c.args.n c.section-facilities.ensures c.section-operations.ensures c.section-states.ensures c.counts_at-c.ensures (omega (arith, c.if-states-n.false)) c.state_part-part.ensures
