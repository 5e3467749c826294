use mathlib.Core.Path.{sym, ◌∙◌}
use borrow.Author.Tests.{not-false, not-true}
use Rattle.call_open.proofs.CallLaws.{all_right, no-image, no_room, store-room}
use Rattle.call_open.proofs.open.open.Goals as goal

pub returns-then-not-passed : goal.returns-then-not-passed
returns-then-not-passed c =
    no-image _ c.args.store.now c.args.kept.now c.zero.ensures c.zero-2.ensures (sym c.requires ∙ not-true _ c.if-not-passed.true-raw)

pub roomy-requires : goal.roomy-requires
roomy-requires c =
    sym c.requires ∙ not-false _ c.if-not-passed.false-raw

pub returns-then-not-roomy : goal.returns-then-not-roomy
returns-then-not-roomy c =
    no_room _ c.args.store.now c.args.kept.now c.zero.ensures c.zero-2.ensures (sym c.requires ∙ not-false _ c.if-not-passed.false-raw) (sym c.roomy.ensures ∙ not-true _ c.if-not-roomy.true-raw)

pub first_words-requires : goal.first_words-requires
first_words-requires c =
    let p = sym c.requires ∙ not-false _ c.if-not-passed.false-raw in
    (p, store-room _ c.args.store.now c.args.kept.now c.zero.ensures c.zero-2.ensures p (sym c.roomy.ensures ∙ not-false _ c.if-not-roomy.false-raw))

pub returns : goal.returns
returns c =
    all_right _ c.args.store.now c.args.kept.now c.zero.ensures c.zero-2.ensures (sym c.requires ∙ not-false _ c.if-not-passed.false-raw) (sym c.roomy.ensures ∙ not-false _ c.if-not-roomy.false-raw) c.first_words.ensures c.first_record.ensures
