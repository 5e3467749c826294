use mathlib.Core.Path.{sym, ◌∙◌}
use borrow.Author.Tests.{not-false, not-true}
use Rattle.language.specs.Decode.{described}
use Rattle.language.specs.Encode.{Sections}
use Rattle.image_order.proofs.HoldsLaws.{actions-held, facilities-held, nodes-held, operations-held, states-held}
use Rattle.image_form.proofs.FormLaws.{counts-not, named-not, runs-not, shapes-not, trees-left}
use Rattle.image_form.specs.Form.{sectioned}
use Rattle.image_form.proofs.formed.Goals as goal

pub returns-then-not-counts_right : goal.returns-then-not-counts_right
returns-then-not-counts_right c =
    let x : Sections = sectioned c.args.facilities.now c.args.operations.now c.args.exprs.now c.args.acts.now c.args.states.now c.args.names.now in
    sym (counts-not x c.args.c c.requires (sym (c.counts_right.ensures (described x) (facilities-held x) (operations-held x) (nodes-held x) (actions-held x) (states-held x)) ∙ not-true _ c.if-not-counts_right.true-raw))

pub returns-then-not-facilities_shaped : goal.returns-then-not-facilities_shaped
returns-then-not-facilities_shaped c =
    let x : Sections = sectioned c.args.facilities.now c.args.operations.now c.args.exprs.now c.args.acts.now c.args.states.now c.args.names.now in
    let k = sym (c.counts_right.ensures (described x) (facilities-held x) (operations-held x) (nodes-held x) (actions-held x) (states-held x)) ∙ not-false _ c.if-not-counts_right.false-raw in
    sym (shapes-not x c.args.c c.requires k (sym (c.facilities_shaped.ensures (described x) (facilities-held x)) ∙ not-true _ c.if-not-facilities_shaped.true-raw))

pub returns-then-not-named : goal.returns-then-not-named
returns-then-not-named c =
    let x : Sections = sectioned c.args.facilities.now c.args.operations.now c.args.exprs.now c.args.acts.now c.args.states.now c.args.names.now in
    let k = sym (c.counts_right.ensures (described x) (facilities-held x) (operations-held x) (nodes-held x) (actions-held x) (states-held x)) ∙ not-false _ c.if-not-counts_right.false-raw in
    let h = sym (c.facilities_shaped.ensures (described x) (facilities-held x)) ∙ not-false _ c.if-not-facilities_shaped.false-raw in
    sym (named-not x c.args.c c.requires k h (sym c.named.ensures ∙ not-true _ c.if-not-named.true-raw))

pub returns-then-not-runs_right : goal.returns-then-not-runs_right
returns-then-not-runs_right c =
    let x : Sections = sectioned c.args.facilities.now c.args.operations.now c.args.exprs.now c.args.acts.now c.args.states.now c.args.names.now in
    let k = sym (c.counts_right.ensures (described x) (facilities-held x) (operations-held x) (nodes-held x) (actions-held x) (states-held x)) ∙ not-false _ c.if-not-counts_right.false-raw in
    let h = sym (c.facilities_shaped.ensures (described x) (facilities-held x)) ∙ not-false _ c.if-not-facilities_shaped.false-raw in
    sym (runs-not x c.args.c c.requires k h (sym c.named.ensures ∙ not-false _ c.if-not-named.false-raw) (sym (c.runs_right.ensures (described x) (operations-held x) (actions-held x) (states-held x)) ∙ not-true _ c.if-not-runs_right.true-raw))

pub returns : goal.returns
returns c =
    let x : Sections = sectioned c.args.facilities.now c.args.operations.now c.args.exprs.now c.args.acts.now c.args.states.now c.args.names.now in
    let k = sym (c.counts_right.ensures (described x) (facilities-held x) (operations-held x) (nodes-held x) (actions-held x) (states-held x)) ∙ not-false _ c.if-not-counts_right.false-raw in
    let h = sym (c.facilities_shaped.ensures (described x) (facilities-held x)) ∙ not-false _ c.if-not-facilities_shaped.false-raw in
    c.trees_right.ensures (described x) (facilities-held x) (operations-held x) (nodes-held x) (actions-held x) (states-held x) ∙ sym (trees-left x c.args.c c.requires k h (sym c.named.ensures ∙ not-false _ c.if-not-named.false-raw) (sym (c.runs_right.ensures (described x) (operations-held x) (actions-held x) (states-held x)) ∙ not-false _ c.if-not-runs_right.false-raw))
