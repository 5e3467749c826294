use Rattle.judge_verdicts.specs.Meaning.{earlier_of}
use mathlib.Core.Path.{sym, ◌∙◌}
use Rattle.judge_verdicts.proofs.faults.earlier.Goals as goal

pub returns-then-before : goal.returns-then-before
unfolding earlier_of
returns-then-before c =
    rw (sym c.before-2.ensures ∙ c.if-before.true)

pub returns-else-before : goal.returns-else-before
unfolding earlier_of
returns-else-before c =
    rw (sym c.before-2.ensures ∙ c.if-before.false)
