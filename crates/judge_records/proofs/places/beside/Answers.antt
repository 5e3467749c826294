use Rattle.judge_records.specs.Read.{place_of}
use borrow.Author.Tests.{le-ltb, lt-ltb}
use Rattle.judge_records.proofs.places.beside.Goals as goal

pub returns-then-places-n : goal.returns-then-places-n
unfolding place_of
returns-then-places-n g c =
    rw (le-ltb _ _ c.if-places-n.true) c.nowhere.ensures

pub returns : goal.returns
unfolding place_of
returns g c =
    rw (lt-ltb _ _ c.if-places-n.false) c.place_no.ensures
