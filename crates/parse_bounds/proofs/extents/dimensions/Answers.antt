use mathlib.Core.Path.{sym, ◌∙◌}
use Rattle.parse_step.proofs.Answers.{err-came}
use Rattle.parse_bounds.proofs.ExtentLaws.{no-range, none_read, not_opened, range-read}
use Rattle.parse_bounds.proofs.extents.dimensions.Goals as goal

pub returns-then-kind_of-ne-OPEN_BRACKET : goal.returns-then-kind_of-ne-OPEN_BRACKET
returns-then-kind_of-ne-OPEN_BRACKET c =
    none_read (λ e. c.if-kind_of-ne-OPEN_BRACKET.true (c.kind_of.ensures ∙ e)) c.single-extent.ensures

pub returns-in_err-open : goal.returns-in_err-open
returns-in_err-open c =
    rw (err-came c.from_residual.ensures.1) (not_opened (sym c.kind_of.ensures ∙ c.if-kind_of-ne-OPEN_BRACKET.false) c.in_err-open.ensures)

pub returns-in_err-first : goal.returns-in_err-first
returns-in_err-first c =
    rw (err-came c.from_residual-in_err-first.ensures.1) (no-range (sym c.kind_of.ensures ∙ c.if-kind_of-ne-OPEN_BRACKET.false) c.in_ok-open.ensures c.in_err-first.ensures)

pub returns : goal.returns
returns c =
    range-read (sym c.kind_of.ensures ∙ c.if-kind_of-ne-OPEN_BRACKET.false) c.in_ok-open.ensures c.in_ok-first.ensures c.behind_range.ensures
