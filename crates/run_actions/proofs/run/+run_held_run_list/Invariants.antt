use mathlib.Core.Path.{◌≡◌}
use lib.ListN.{length}
use Rattle.language.specs.Description.{Description}
use Rattle.run_stores.specs.Seen.{Ran}
use Rattle.run_actions.specs.Acts.{ActsOf, HeldFalls, Reaches, left_of, rank}
use Prim.Native.Nat.{◌+◌, ◌*◌, ◌≤◌}
use Rattle.run_actions.proofs.run.+run_held_run_list.Given as goal

abbrev pub decreases-run_held : goal.decreases-run_held
decreases-run_held l = 2 * rank l.limit (left_of l.from)

abbrev pub decreases-run_list : goal.decreases-run_list
decreases-run_list l = 2 * rank l.limit l.count + 1

abbrev pub invariant-run_held-loop-reached : goal.invariant-run_held-loop-reached
invariant-run_held-loop-reached l = (left_of l.reached ≤ left_of l.initial.reached) × HeldFalls l.limit l.reached
    × (length l.store ≡ length l.initial.store) × (length l.pending ≡ length l.initial.pending) × (length l.mask ≡ length l.initial.mask)
    × ((d : Description) (w : Ran) → ActsOf d l.image l.states → Reaches d l.limit l.initial.reached l.initial.store l.initial.pending l.initial.mask w → Reaches d l.limit l.reached l.store l.pending l.mask w)

abbrev pub decreases-run_held-loop-reached : goal.decreases-run_held-loop-reached
decreases-run_held-loop-reached l = left_of l.reached
