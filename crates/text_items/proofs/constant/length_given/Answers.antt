use borrow.Author.Tests.{le-leb, lt-leb}
use Rattle.language.specs.Ceilings.{longest}
use Rattle.text_items.specs.Digits.{length_of}
use Rattle.text_items.proofs.constant.length_given.Goals as goal

pub returns-then-n-le-LONGEST : goal.returns-then-n-le-LONGEST
unfolding length_of longest
returns-then-n-le-LONGEST c = simp (← c.counted-n.ensures, le-leb _ _ c.if-n-le-LONGEST.true)

pub returns-else-n-le-LONGEST : goal.returns-else-n-le-LONGEST
unfolding length_of longest
returns-else-n-le-LONGEST c = simp (← c.counted-n.ensures, lt-leb _ _ c.if-n-le-LONGEST.false)
