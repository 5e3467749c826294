use Rattle.language.specs.Ceilings.{longest}
use borrow.Author.Tests.{le-leb, lt-leb}
use Rattle.run_references.proofs.places.narrow.Goals as goal

pub returns-then-count : goal.returns-then-count
unfolding longest
returns-then-count c =
    rw (lt-leb _ _ c.if-count.true)

pub returns : goal.returns
unfolding longest
returns c =
    rw (le-leb _ _ c.if-count.false)
