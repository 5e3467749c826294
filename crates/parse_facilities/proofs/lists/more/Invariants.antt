use mathlib.Core.List.{List}
use Prim.Native.Nat.{◌-◌}
use Rattle.parse_facilities.proofs.ListLaws.{Here}
use Rattle.parse_facilities.specs.Declares.{Standing}
use Rattle.language.specs.Tree.{Declaration}
use Rattle.parse_facilities.proofs.lists.more.Given as goal

abbrev pub invariant-loop-at : goal.invariant-loop-at
invariant-loop-at g l =
    (ds : List Declaration) → Standing l.text ds l.initial.last.place l.initial.last.reached.next l.initial.last.reached.state l.initial.work
    → Here l.text ds g.L.List.listing l.initial.last.reached.next l.initial.last.reached.state l.last.reached.next l.last.reached.state l.last.place l.work

abbrev pub decreases-loop-at : goal.decreases-loop-at
decreases-loop-at g l = 257 - l.last.reached.state.facilities
