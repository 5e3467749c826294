use mathlib.Core.Path.{sym, ◌∙◌}
use borrow.Author.Tests.{not-false, not-true}
use Rattle.language.specs.Decode.{described}
use Rattle.language.specs.Encode.{Sections}
use Rattle.image_order.proofs.HoldsLaws.{actions-held, facilities-held, nodes-held}
use Rattle.image_form.proofs.FormLaws.{actions-left, facilities-differ, names-long, names-unfit, nodes-differ}
use Rattle.image_form.specs.Form.{sectioned}
use Rattle.image_form.proofs.written.Goals as goal

pub returns-then-not-names_fit : goal.returns-then-not-names_fit
returns-then-not-names_fit c =
    let x : Sections = sectioned c.args.facilities.now c.args.operations.now c.args.exprs.now c.args.acts.now c.args.states.now c.args.names.now in
    sym (names-unfit x c.args.c c.requires (sym c.names_fit.ensures ∙ not-true _ c.if-not-names_fit.true-raw))

pub returns-then-not-facilities_right : goal.returns-then-not-facilities_right
returns-then-not-facilities_right c =
    let x : Sections = sectioned c.args.facilities.now c.args.operations.now c.args.exprs.now c.args.acts.now c.args.states.now c.args.names.now in
    let n = sym c.names_fit.ensures ∙ not-false _ c.if-not-names_fit.false-raw in
    sym (facilities-differ x c.args.c c.requires n (sym (c.facilities_right.ensures (described x) (facilities-held x) (names-long x c.args.c c.requires n)) ∙ not-true _ c.if-not-facilities_right.true-raw))

pub returns-then-not-nodes_right : goal.returns-then-not-nodes_right
returns-then-not-nodes_right c =
    let x : Sections = sectioned c.args.facilities.now c.args.operations.now c.args.exprs.now c.args.acts.now c.args.states.now c.args.names.now in
    let n = sym c.names_fit.ensures ∙ not-false _ c.if-not-names_fit.false-raw in
    let f = sym (c.facilities_right.ensures (described x) (facilities-held x) (names-long x c.args.c c.requires n)) ∙ not-false _ c.if-not-facilities_right.false-raw in
    sym (nodes-differ x c.args.c c.requires n f (λ i. (c.shared_slice_known-2-1.given i).fits) (sym (c.nodes_right.ensures (described x) (nodes-held x)) ∙ not-true _ c.if-not-nodes_right.true-raw))

pub returns : goal.returns
returns c =
    let x : Sections = sectioned c.args.facilities.now c.args.operations.now c.args.exprs.now c.args.acts.now c.args.states.now c.args.names.now in
    let n = sym c.names_fit.ensures ∙ not-false _ c.if-not-names_fit.false-raw in
    let f = sym (c.facilities_right.ensures (described x) (facilities-held x) (names-long x c.args.c c.requires n)) ∙ not-false _ c.if-not-facilities_right.false-raw in
    c.actions_right.ensures (described x) (actions-held x) ∙ sym (actions-left x c.args.c c.requires n f (λ i. (c.shared_slice_known-2-1.given i).fits) (sym (c.nodes_right.ensures (described x) (nodes-held x)) ∙ not-false _ c.if-not-nodes_right.false-raw) (λ i. (c.shared_slice_known-5-1.given i).fits))
