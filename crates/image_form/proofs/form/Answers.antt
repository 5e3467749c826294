use mathlib.Core.Path.{sym, ap, ◌∙◌}
use borrow.Author.Tests.{not-false, not-true}
use Rattle.language.specs.Canonical.{canonical}
use Rattle.language.specs.Decode.{described}
use Rattle.language.specs.Encode.{Sections}
use Rattle.about_images.specs.Whole.{sections_same}
use Rattle.image_form.proofs.FormLaws.{form-left, header-not, sections-are, sections-sized, written-not}
use Rattle.image_form.proofs.form.Goals as goal

pub returns-then-not-header_right : goal.returns-then-not-header_right
returns-then-not-header_right c =
    sym (header-not c.args.image.now (sym c.header_right.ensures ∙ not-true _ c.if-not-header_right.true-raw))

pub written-requires : goal.written-requires
written-requires c =
    sections-sized c.args.image.now (sym c.header_right.ensures ∙ not-false _ c.if-not-header_right.false-raw) (sections-are c.args.image.now c.section-facilities.ensures c.section-operations.ensures c.section-exprs.ensures c.section-acts.ensures c.section-states.ensures c.section-names.ensures) c.counts_at-c.ensures

pub returns-then-not-written : goal.returns-then-not-written
returns-then-not-written c =
    sym (written-not c.args.image.now (sym c.header_right.ensures ∙ not-false _ c.if-not-header_right.false-raw) (ap sections_same (sym (sections-are c.args.image.now c.section-facilities.ensures c.section-operations.ensures c.section-exprs.ensures c.section-acts.ensures c.section-states.ensures c.section-names.ensures)) ∙ sym c.written.ensures ∙ not-true _ c.if-not-written.true-raw))

pub formed-requires : goal.formed-requires
formed-requires c =
    sections-sized c.args.image.now (sym c.header_right.ensures ∙ not-false _ c.if-not-header_right.false-raw) (sections-are c.args.image.now c.section-facilities.ensures c.section-operations.ensures c.section-exprs.ensures c.section-acts.ensures c.section-states.ensures c.section-names.ensures) c.counts_at-c.ensures

pub returns : goal.returns
returns c =
    c.formed.ensures ∙ ap (λ (x : Sections). canonical (described x)) (sections-are c.args.image.now c.section-facilities.ensures c.section-operations.ensures c.section-exprs.ensures c.section-acts.ensures c.section-states.ensures c.section-names.ensures) ∙ sym (form-left c.args.image.now (sym c.header_right.ensures ∙ not-false _ c.if-not-header_right.false-raw) (ap sections_same (sym (sections-are c.args.image.now c.section-facilities.ensures c.section-operations.ensures c.section-exprs.ensures c.section-acts.ensures c.section-states.ensures c.section-names.ensures)) ∙ sym c.written.ensures ∙ not-false _ c.if-not-written.false-raw))
