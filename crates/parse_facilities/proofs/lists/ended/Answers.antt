use mathlib.Core.Path.{sym, ◌∙◌}
use Rattle.std.proofs.Common.{inl, inr}
use Rattle.parse_step.proofs.Answers.{err-came}
use Rattle.parse_facilities.proofs.ListWords.{by-neither, closed, not_closed}
use Rattle.parse_facilities.proofs.lists.ended.Goals as goal
use Rattle.parse_facilities.proofs.lists.ended.Goals.{else-kind-ne-PERIOD-via-then-kind-ne-PERIOD+else-kind-ne-END, else-kind-ne-PERIOD-via-else-kind-ne-PERIOD}

pub returns-then-kind-ne-END : goal.returns-then-kind-ne-END
returns-then-kind-ne-END c =
    by-neither (λ e. c.if-kind-ne-PERIOD.true (c.kind_of-kind.ensures ∙ e)) (λ e. c.if-kind-ne-END.true (c.kind_of-kind.ensures ∙ e)) c.refuse.ensures

pub returns-in_err-reached : goal.returns-in_err-reached
returns-in_err-reached c =
    rw (err-came c.from_residual.ensures.1)
    (not_closed (elim c.else-kind-ne-PERIOD.branch [ else-kind-ne-PERIOD-via-then-kind-ne-PERIOD+else-kind-ne-END w ↦ inr (sym c.kind_of-kind.ensures ∙ w.if-kind-ne-END.false) | else-kind-ne-PERIOD-via-else-kind-ne-PERIOD w ↦ inl (sym c.kind_of-kind.ensures ∙ w.if-kind-ne-PERIOD.false) ]) c.in_err-reached.ensures)

pub returns : goal.returns
returns c =
    closed (elim c.else-kind-ne-PERIOD.branch [ else-kind-ne-PERIOD-via-then-kind-ne-PERIOD+else-kind-ne-END w ↦ inr (sym c.kind_of-kind.ensures ∙ w.if-kind-ne-END.false) | else-kind-ne-PERIOD-via-else-kind-ne-PERIOD w ↦ inl (sym c.kind_of-kind.ensures ∙ w.if-kind-ne-PERIOD.false) ]) c.in_ok-reached.ensures
