use mathlib.Core.Path.{sym, ◌∙◌}
use Rattle.parse_step.proofs.Answers.{err-came}
use Rattle.parse_bounds.proofs.ExtentLaws.{comma-not, neither, row-closed, row-not, second-not, table-closed, table-open}
use Rattle.parse_bounds.proofs.extents.behind_range.Goals as goal

pub returns-in_err-reached : goal.returns-in_err-reached
returns-in_err-reached c =
    rw (err-came c.from_residual.ensures.1) (row-not (sym c.kind_of-kind.ensures ∙ c.if-kind-eq-CLOSE_BRACKET.true) c.in_err-reached.ensures)

pub returns-then-kind-eq-CLOSE_BRACKET : goal.returns-then-kind-eq-CLOSE_BRACKET
returns-then-kind-eq-CLOSE_BRACKET c =
    row-closed (sym c.kind_of-kind.ensures ∙ c.if-kind-eq-CLOSE_BRACKET.true) c.in_ok-reached.ensures c.row-extent.ensures

pub returns-then-kind-ne-COMMA : goal.returns-then-kind-ne-COMMA
returns-then-kind-ne-COMMA c =
    neither (λ e. c.if-kind-eq-CLOSE_BRACKET.false (c.kind_of-kind.ensures ∙ e)) (λ e. c.if-kind-ne-COMMA.true (c.kind_of-kind.ensures ∙ e)) c.refuse.ensures

pub returns-in_err-comma : goal.returns-in_err-comma
returns-in_err-comma c =
    rw (err-came c.from_residual-in_err-comma.ensures.1) (comma-not (sym c.kind_of-kind.ensures ∙ c.if-kind-ne-COMMA.false) c.in_err-comma.ensures)

pub returns-in_err-second : goal.returns-in_err-second
returns-in_err-second c =
    rw (err-came c.from_residual-in_err-second.ensures.1) (second-not (sym c.kind_of-kind.ensures ∙ c.if-kind-ne-COMMA.false) c.in_ok-comma.ensures c.in_err-second.ensures)

pub returns-in_err-reached-2 : goal.returns-in_err-reached-2
returns-in_err-reached-2 c =
    rw (err-came c.from_residual-in_err-reached-2.ensures.1) (table-open (sym c.kind_of-kind.ensures ∙ c.if-kind-ne-COMMA.false) c.in_ok-comma.ensures c.in_ok-second.ensures c.in_err-reached-2.ensures)

pub returns : goal.returns
returns c =
    table-closed (sym c.kind_of-kind.ensures ∙ c.if-kind-ne-COMMA.false) c.in_ok-comma.ensures c.in_ok-second.ensures c.in_ok-reached-2.ensures c.table-extent.ensures
