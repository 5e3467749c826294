use mathlib.Core.List.{[]}
use mathlib.Core.Path.{sym, ◌∙◌}
use Rattle.parse_states.proofs.EndLaws.{ends-behind, not-ended, to-dollar, without-dollar}
use Rattle.parse_step.proofs.Answers.{err-came}
use mathlib.Core.Path.{refl}
use Rattle.parse_states.proofs.ends.dollar.Goals as goal

pub returns-then-kind_of-ne-DOLLAR : goal.returns-then-kind_of-ne-DOLLAR
returns-then-kind_of-ne-DOLLAR c =
    without-dollar (λ e. c.if-kind_of-ne-DOLLAR.true (c.kind_of.ensures ∙ e)) (c.nothing.ensures c.args.text.now)

pub returns-in_err-answer : goal.returns-in_err-answer
returns-in_err-answer c =
    rw (err-came c.from_residual.ensures.1) (not-ended [] c.in_err-answer.ensures (to-dollar c.args.s (sym c.kind_of.ensures ∙ c.if-kind_of-ne-DOLLAR.false)) refl)

pub returns : goal.returns
returns c =
    ends-behind [] c.in_ok-answer.ensures (to-dollar c.args.s (sym c.kind_of.ensures ∙ c.if-kind_of-ne-DOLLAR.false)) refl (c.nothing-2.ensures c.args.text.now)
