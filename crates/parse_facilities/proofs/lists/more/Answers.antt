use mathlib.Core.Path.{sym, ◌∙◌}
use Rattle.parse_step.proofs.Answers.{err-came}
use Rattle.parse_facilities.proofs.ListLaws.{another, another-not, comma-not, list-ended, none_yet, one_fewer}
use Rattle.parse_facilities.proofs.lists.more.Goals as goal

pub loop-at-init : goal.loop-at-init
loop-at-init g c = λ ds st. none_yet c.args.text.now ds g.L.List.listing c.args.first.reached.next c.args.first.reached.state st

pub returns-in_err-comma : goal.returns-in_err-comma
returns-in_err-comma g c =
    rw (err-came c.from_residual.ensures.1)
    (λ ds st. comma-not c.args.text.now ds g.L.List.listing c.args.first.reached.next c.args.first.reached.state (c.loop-at.invariant ds st) (sym c.kind_of.ensures ∙ c.loop-at-test.true) c.in_err-comma.ensures)

pub returns-in_err-last : goal.returns-in_err-last
returns-in_err-last g c =
    rw (err-came c.from_residual-in_err-last.ensures.1)
    (λ ds st. another-not c.args.text.now ds g.L.List.listing c.args.first.reached.next c.args.first.reached.state (c.loop-at.invariant ds st) (sym c.kind_of.ensures ∙ c.loop-at-test.true) c.in_ok-comma.ensures c.in_err-last.ensures)

pub loop-at-smaller : goal.loop-at-smaller
loop-at-smaller g c =
    let ds = c.requires.declared in
    let st = c.requires.standing in
    one_fewer c.args.text.now ds g.L.List.listing c.args.first.reached.next c.args.first.reached.state (c.loop-at.invariant ds st) (sym c.kind_of.ensures ∙ c.loop-at-test.true) c.in_ok-comma.ensures c.in_ok-last.ensures

pub loop-at-preserved : goal.loop-at-preserved
loop-at-preserved g c =
    λ ds st. another c.args.text.now ds g.L.List.listing c.args.first.reached.next c.args.first.reached.state (c.loop-at.invariant ds st) (sym c.kind_of.ensures ∙ c.loop-at-test.true) c.in_ok-comma.ensures c.in_ok-last.ensures

pub returns : goal.returns
returns g c =
    λ ds st. list-ended c.args.text.now ds g.L.List.listing c.args.first.reached.next c.args.first.reached.state (c.loop-at.invariant ds st) (λ e. c.loop-at-test.false (c.kind_of.ensures ∙ e)) c.ended.ensures
