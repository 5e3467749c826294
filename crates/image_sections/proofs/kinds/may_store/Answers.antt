use borrow.Author.Tests.{ne_eqb}
use Rattle.language.specs.Storing.{may_store}
use Rattle.image_sections.proofs.kinds.may_store.Goals as goal

pub returns-in-29 : goal.returns-in-29
unfolding may_store
returns-in-29 c =
    rw c.in-29.is c.takes_delayed.ensures

pub returns-in-16 : goal.returns-in-16
unfolding may_store
returns-in-16 c =
    rw c.in-16.is c.takes_immediate.ensures

pub returns-in_default : goal.returns-in_default
unfolding may_store
returns-in_default c =
    simp (ne_eqb _ _ c.in_default.in_default-own.rest.1, ne_eqb _ _ c.in_default.in_default-own.rest.0.1)
