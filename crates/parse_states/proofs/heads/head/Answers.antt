use mathlib.Core.Path.{sym, ◌∙◌}
use Rattle.parse_states.proofs.HeadLaws.{head-named, head-not, head_plain, name-not}
use Rattle.parse_step.proofs.Answers.{err-came}
use Rattle.parse_states.proofs.heads.head.Goals as goal

pub returns-in_err-counted : goal.returns-in_err-counted
returns-in_err-counted c =
    rw (err-came c.from_residual.ensures.1) (head-not c.in_err-counted.ensures)

pub returns-then-kind_of-ne-NAME : goal.returns-then-kind_of-ne-NAME
returns-then-kind_of-ne-NAME c =
    head_plain c.in_ok-counted.ensures (λ e. c.if-kind_of-ne-NAME.true (c.kind_of.ensures ∙ e)) c.plain.ensures

pub returns-in_err-name : goal.returns-in_err-name
returns-in_err-name c =
    rw (err-came c.from_residual-in_err-name.ensures.1) (name-not c.in_ok-counted.ensures (sym c.kind_of.ensures ∙ c.if-kind_of-ne-NAME.false) c.in_err-name.ensures)

pub returns : goal.returns
returns c =
    head-named c.in_ok-counted.ensures (sym c.kind_of.ensures ∙ c.if-kind_of-ne-NAME.false) c.in_ok-name.ensures c.after_name.ensures
