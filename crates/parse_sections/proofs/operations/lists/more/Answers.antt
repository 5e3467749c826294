use mathlib.Core.Path.{sym, ◌∙◌}
use Rattle.parse_step.proofs.Answers.{err-came}
use Rattle.parse_sections.proofs.OperationLists.{another, another-not, comma-not, list-ended, none_yet, one_fewer}
use Rattle.parse_sections.proofs.operations.lists.more.Goals as goal

pub loop-last-init : goal.loop-last-init
loop-last-init c = λ names first h os st. none_yet st

pub returns-in_err-comma : goal.returns-in_err-comma
returns-in_err-comma c =
    rw (err-came c.from_residual.ensures.1)
    (λ names first h os st. comma-not (c.loop-last.invariant names first h os st) (sym c.kind_of.ensures ∙ c.loop-last-test.true) c.in_err-comma.ensures)

pub returns-in_err-last : goal.returns-in_err-last
returns-in_err-last c =
    rw (err-came c.from_residual-in_err-last.ensures.1)
    (λ names first h os st. another-not (c.loop-last.invariant names first h os st) (sym c.kind_of.ensures ∙ c.loop-last-test.true) c.in_ok-comma.ensures c.in_err-last.ensures)

pub loop-last-smaller : goal.loop-last-smaller
loop-last-smaller c =
    let x = c.requires in
    one_fewer (c.loop-last.invariant x.names x.first x.before x.declared x.standing) (sym c.kind_of.ensures ∙ c.loop-last-test.true) c.in_ok-comma.ensures c.in_ok-last.ensures

pub loop-last-preserved : goal.loop-last-preserved
loop-last-preserved c =
    λ names first h os st. another (c.loop-last.invariant names first h os st) (sym c.kind_of.ensures ∙ c.loop-last-test.true) c.in_ok-comma.ensures c.in_ok-last.ensures

pub returns : goal.returns
returns c =
    λ names first h os st. list-ended (c.loop-last.invariant names first h os st) (λ e. c.loop-last-test.false (c.kind_of.ensures ∙ e)) c.ended.ensures
