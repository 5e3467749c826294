use mathlib.Core.Path.{sym, ◌∙◌}
use Rattle.parse_sections.proofs.ReadyLaws.{control-read, no-section}
use Rattle.parse_sections.proofs.sections.behind_terminals.Goals as goal

pub operations-requires : goal.operations-requires
operations-requires c =
    c.requires

pub returns-then-k-eq-OPERATION : goal.returns-then-k-eq-OPERATION
returns-then-k-eq-OPERATION c =
    c.operations.ensures (sym c.kind_of-k.ensures ∙ c.if-k-eq-OPERATION.true)

pub returns-then-k-eq-CONTROL : goal.returns-then-k-eq-CONTROL
returns-then-k-eq-CONTROL c =
    control-read c.whole.ensures (sym c.kind_of-k.ensures ∙ c.if-k-eq-CONTROL.true) c.take.ensures

pub returns : goal.returns
returns c =
    no-section (λ e. c.if-k-eq-OPERATION.false (c.kind_of-k.ensures ∙ e)) (λ e. c.if-k-eq-CONTROL.false (c.kind_of-k.ensures ∙ e)) c.refuse.ensures
