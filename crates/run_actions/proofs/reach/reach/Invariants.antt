use mathlib.Core.Path.{◌≡◌}
use Prim.Native.Nat.{◌≤◌}
use lib.ListN.{length}
use Rattle.run_stores.specs.Seen.{ran_seen, viewed}
use Rattle.run_actions.specs.Acts.{ForActs, over_done}
use Rattle.run_actions.proofs.RunLaws.{Continues}
use Rattle.run_actions.proofs.reach.reach.Given as goal

abbrev pub invariant-loop-left : goal.invariant-loop-left
invariant-loop-left l =
    (l.left ≤ l.count) × (length l.store ≡ length l.initial.store) × (length l.pending ≡ length l.initial.pending) × (length l.mask ≡ length l.initial.mask)
    × ForActs l.image l.states (viewed l.initial.h l.initial.store l.initial.pending l.initial.mask)
    (λ d c. Continues d l.limit (ran_seen (over_done d l.limit l.first l.count l.over c)) (viewed l.h l.store l.pending l.mask) l.i l.left)

abbrev pub decreases-loop-left : goal.decreases-loop-left
decreases-loop-left l = l.left
