use borrow.Author.Tests.{le-leb, lt-leb}
use Rattle.call_open.proofs.FirstLaws.{size-known}
use Rattle.call_open.proofs.open.roomy.Goals as goal

pub returns-then-size-store : goal.returns-then-size-store
returns-then-size-store c =
    let z = size-known _ c.requires c.section.ensures c.store_size-size.ensures in rw (← z, le-leb _ _ c.if-size-store.true)

pub returns-else-size-store : goal.returns-else-size-store
returns-else-size-store c =
    let z = size-known _ c.requires c.section.ensures c.store_size-size.ensures in rw (← z, lt-leb _ _ c.if-size-store.false)
