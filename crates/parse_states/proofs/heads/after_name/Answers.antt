use mathlib.Core.Path.{sym, ◌∙◌}
use Rattle.parse_step.proofs.Answers.{err-came}
use Rattle.parse_states.proofs.HeadLaws.{label-not, label-read, named-first}
use Rattle.parse_states.proofs.heads.after_name.Goals as goal

pub returns-then-kind-eq-OPEN_PAREN : goal.returns-then-kind-eq-OPEN_PAREN
returns-then-kind-eq-OPEN_PAREN c =
    c.valued.ensures (sym c.kind_of-kind.ensures ∙ c.if-kind-eq-OPEN_PAREN.true)

pub returns-in_err-take : goal.returns-in_err-take
returns-in_err-take c =
    rw (err-came c.from_residual.ensures.1) (label-not c.args.name (sym c.kind_of-kind.ensures ∙ c.if-kind-eq-COLON.true) c.in_err-take.ensures)

pub returns-then-kind-eq-COLON : goal.returns-then-kind-eq-COLON
returns-then-kind-eq-COLON c =
    label-read c.args.name (sym c.kind_of-kind.ensures ∙ c.if-kind-eq-COLON.true) c.in_ok-take.ensures c.plain.ensures

pub returns : goal.returns
returns c =
    named-first c.args.name (λ e. c.if-kind-eq-COLON.false (c.kind_of-kind.ensures ∙ e)) (λ e. c.if-kind-eq-OPEN_PAREN.false (c.kind_of-kind.ensures ∙ e)) c.plain-2.ensures
