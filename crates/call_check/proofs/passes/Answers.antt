use mathlib.Core.Path.{sym, ap, ◌∙◌}
use borrow.Author.Tests.{not-false, not-true}
use lib.Dec.{eqb}
use lib.ListN.{length}
use Rattle.language.specs.Decode.{decode, described}
use Rattle.language.specs.Description.{no_places}
use Rattle.language.specs.Encode.{Sections}
use Rattle.language.specs.Rules.{faults}
use Rattle.image_form.proofs.FormLaws.{sections-are}
use Rattle.call_check.proofs.PassesLaws.{actions-in, few, nodes-in, rules-left, unbounded, unformed}
use Rattle.call_check.proofs.passes.Goals as goal

pub returns-then-not-bounded : goal.returns-then-not-bounded
returns-then-not-bounded c =
    unbounded c.args.image.now
    (sym (c.bounded.ensures (decode c.args.image.now) (nodes-in c.args.image.now c.section-exprs.ensures) (actions-in c.args.image.now c.section-acts.ensures)) ∙ not-true _ c.if-not-bounded.true-raw)

pub returns-then-not-form : goal.returns-then-not-form
returns-then-not-form c =
    unformed c.args.image.now (sym c.form.ensures ∙ not-true _ c.if-not-form.true-raw)

pub faultless-requires : goal.faultless-requires
faultless-requires c =
    rw (c.section-facilities.ensures, c.section-operations.ensures)
    (few c.args.image.now (sym c.form.ensures ∙ not-false _ c.if-not-form.false-raw))

pub returns : goal.returns
returns c =
    let e = sections-are c.args.image.now c.section-facilities.ensures c.section-operations.ensures c.section-exprs.ensures c.section-acts.ensures c.section-states.ensures c.section-names.ensures in
    c.faultless.ensures
    ∙ ap (λ (x : Sections). eqb (length (faults (described x) no_places)) 0) e
    ∙ rules-left c.args.image.now (sym c.form.ensures ∙ not-false _ c.if-not-form.false-raw)
