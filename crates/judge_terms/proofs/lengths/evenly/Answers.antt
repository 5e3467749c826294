use Rattle.language.specs.Expressions.{evenly}
use borrow.Author.Tests.{eq-eqb, ne_eqb}
use Rattle.judge_terms.proofs.lengths.evenly.Goals as goal

pub returns-then-m-n : goal.returns-then-m-n
unfolding evenly
returns-then-m-n c =
    rw (eq-eqb _ _ c.if-m-n.true)

pub returns-else-m-n : goal.returns-else-m-n
unfolding evenly
returns-else-m-n c =
    rw (ne_eqb _ _ c.if-m-n.false)
