use mathlib.Core.Path.{sym, ◌∙◌}
use Rattle.std.proofs.Common.{inl, inr}
use Rattle.parse_sections.proofs.HeadLaws.{ends-at-once, ends-shut, no_end}
use Rattle.parse_sections.proofs.operations.ends.ended.Goals as goal
use Rattle.parse_sections.proofs.operations.ends.ended.Goals.{else-kind-ne-PERIOD-via-then-kind-ne-PERIOD+else-kind-ne-END, else-kind-ne-PERIOD-via-else-kind-ne-PERIOD}

pub returns-then-kind-eq-CONTROL : goal.returns-then-kind-eq-CONTROL
returns-then-kind-eq-CONTROL c = ends-at-once (sym c.kind_of-kind.ensures ∙ c.if-kind-eq-CONTROL.true) c.take.ensures

pub returns-then-kind-ne-END : goal.returns-then-kind-ne-END
returns-then-kind-ne-END c =
    no_end (λ e. c.if-kind-eq-CONTROL.false (c.kind_of-kind.ensures ∙ e)) (λ e. c.if-kind-ne-PERIOD.true (c.kind_of-kind.ensures ∙ e)) (λ e. c.if-kind-ne-END.true (c.kind_of-kind.ensures ∙ e)) c.refuse.ensures

pub returns : goal.returns
returns c =
    ends-shut
    (elim c.else-kind-ne-PERIOD.branch [ else-kind-ne-PERIOD-via-then-kind-ne-PERIOD+else-kind-ne-END w ↦ inr (sym c.kind_of-kind.ensures ∙ w.if-kind-ne-END.false) | else-kind-ne-PERIOD-via-else-kind-ne-PERIOD w ↦ inl (sym c.kind_of-kind.ensures ∙ w.if-kind-ne-PERIOD.false) ])
    c.closed.ensures
