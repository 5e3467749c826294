use borrow.Author.Tests.{eq-eqb, ne_eqb}
use Rattle.language.specs.Meaning.{decides}
use Rattle.run_references.proofs.arms.decides.Goals as goal

pub returns-then-n-ne2 : goal.returns-then-n-ne2
unfolding decides
returns-then-n-ne2 c =
    rw (ne_eqb _ _ c.if-n-ne2.true)

pub returns-else-n-ne2 : goal.returns-else-n-ne2
unfolding decides
returns-else-n-ne2 c =
    rw (eq-eqb _ _ c.if-n-ne2.false)
