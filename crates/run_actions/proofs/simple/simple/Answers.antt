use mathlib.Core.Path.{sym, ap}
use borrow.Author.Tests.{le-ltb, lt-ltb}
use Rattle.store_layout.specs.InBytes.{bytes}
use Rattle.run_stores.specs.Seen.{ran_seen, went}
use Rattle.run_actions.specs.Acts.{simple_done}
use Rattle.run_actions.proofs.ActionLaws.{not-simple}
use Rattle.run_actions.proofs.simple.simple.Goals as goal

pub returns-then-states-s : goal.returns-then-states-s
unfolding simple_done
returns-then-states-s c =
    λ d x h e k. rw (c.in-Goto.is, k, le-ltb _ _ c.if-states-s.true)

pub returns-then-states-s-2 : goal.returns-then-states-s-2
unfolding simple_done
returns-then-states-s-2 c =
    λ d x h e k. rw (c.in-Call.is, k, le-ltb _ _ c.if-states-s-2.true)

pub returns-in-Store : goal.returns-in-Store
unfolding simple_done
returns-in-Store c =
    λ d x h e k. rw c.in-Store.is (c.store_to.ensures d x h e)

pub returns-in-StorePair : goal.returns-in-StorePair
unfolding simple_done
returns-in-StorePair c =
    λ d x h e k. rw c.in-StorePair.is (c.store_to_pair.ensures d x h e)

pub returns-in-Set : goal.returns-in-Set
unfolding simple_done
returns-in-Set c =
    λ d x h e k. rw c.in-Set.is (c.set_at.ensures c.args.pending.now c.args.mask.now d x h e)

pub returns-else-states-s : goal.returns-else-states-s
unfolding simple_done
returns-else-states-s c =
    λ d x h e k. rw (c.in-Goto.is, k, lt-ltb _ _ c.if-states-s.false) (ap went (c.going_to.ensures d x c.args.store.now c.args.pending.now c.args.mask.now e))

pub returns-else-states-s-2 : goal.returns-else-states-s-2
unfolding simple_done
returns-else-states-s-2 c =
    λ d x h e k. rw (c.in-Call.is, k, lt-ltb _ _ c.if-states-s-2.false) (ap went (c.calling.ensures d x c.args.store.now c.args.pending.now c.args.mask.now e))

pub returns-in-Return : goal.returns-in-Return
unfolding simple_done
returns-in-Return c =
    λ d x h e k. rw c.in-Return.is (ap went (c.returning.ensures d x c.args.store.now c.args.pending.now c.args.mask.now e))

pub returns-in_default : goal.returns-in_default
returns-in_default c =
    λ d x h e k. ap ran_seen (sym (not-simple (bytes d) d x c.args.a c.in_default.in_default-own.keys7))
