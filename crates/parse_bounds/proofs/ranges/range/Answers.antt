use mathlib.Core.Path.{sym, ◌∙◌}
use Rattle.parse_step.proofs.Answers.{err-came}
use Rattle.parse_bounds.proofs.RangeLaws.{range-both, range-ended, range-half, range-no-colon, range-not}
use Rattle.parse_bounds.proofs.ranges.range.Goals as goal

pub returns-in_err-first : goal.returns-in_err-first
returns-in_err-first c =
    rw (err-came c.from_residual.ensures.1) (range-not c.in_err-first.ensures)

pub returns-then-kind_of-ne-COLON : goal.returns-then-kind_of-ne-COLON
returns-then-kind_of-ne-COLON c =
    range-ended c.in_ok-first.ensures c.from_one-ends.ensures (λ e. c.if-kind_of-ne-COLON.true (c.kind_of.ensures ∙ e))

pub returns-in_err-colon : goal.returns-in_err-colon
returns-in_err-colon c =
    rw (err-came c.from_residual-in_err-colon.ensures.1) (range-no-colon c.in_ok-first.ensures (sym c.kind_of.ensures ∙ c.if-kind_of-ne-COLON.false) c.in_err-colon.ensures)

pub returns-in_err-reached : goal.returns-in_err-reached
returns-in_err-reached c =
    rw (err-came c.from_residual-in_err-reached.ensures.1) (range-half c.in_ok-first.ensures (sym c.kind_of.ensures ∙ c.if-kind_of-ne-COLON.false) c.in_ok-colon.ensures c.in_err-reached.ensures)

pub returns : goal.returns
returns c =
    range-both c.in_ok-first.ensures (sym c.kind_of.ensures ∙ c.if-kind_of-ne-COLON.false) c.in_ok-colon.ensures c.in_ok-reached.ensures c.both-ends.ensures
