use mathlib.Core.Path.{ap, sym, ◌∙◌}
use native.Mathlib.Omega.{arith}
use borrow.Author.Tests.{not-false, not-true}
use Rattle.language.specs.Scan.{reserved_kind}
use Rattle.text_items.proofs.Lookup.{zero-is-none}
use Rattle.text_items.specs.Tables.{unless_zero}
use Rattle.image_form.proofs.LabelLaws.{name-empty, name-folded, name-kind, name-long, name-parts, name-small}
use Rattle.image_form.proofs.labels.name_right.Goals as goal

pub returns-then-name-eq0 : goal.returns-then-name-eq0
returns-then-name-eq0 c =
    sym (name-empty c.args.name.now c.if-name-eq0.true)

pub returns-then-name-gt-NAME : goal.returns-then-name-gt-NAME
returns-then-name-gt-NAME c =
    sym (name-long c.args.name.now c.if-name-gt-NAME.true)

pub returns-then-not-within : goal.returns-then-not-within
returns-then-not-within c =
    sym (name-small c.args.name.now (sym c.within.ensures ∙ not-true _ c.if-not-within.true-raw))

pub returns-then-not-parts_right : goal.returns-then-not-parts_right
returns-then-not-parts_right c =
    sym (name-parts c.args.name.now (sym c.within.ensures ∙ not-false _ c.if-not-within.false-raw) (sym c.parts_right.ensures ∙ not-true _ c.if-not-parts_right.true-raw))

pub returns : goal.returns
returns c =
    let p = sym c.parts_right.ensures ∙ not-false _ c.if-not-parts_right.false-raw in
    zero-is-none c.is_none.result _ (c.kind_of.ensures ∙ ap unless_zero (ap reserved_kind (name-folded c.args.name.now p))) c.is_none.ensures
    ∙ sym (name-kind c.args.name.now (omega (arith, c.if-name-eq0.false)) (omega (arith, c.if-name-gt-NAME.false)) (sym c.within.ensures ∙ not-false _ c.if-not-within.false-raw) p)
