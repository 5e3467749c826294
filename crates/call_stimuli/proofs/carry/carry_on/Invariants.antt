use mathlib.Core.List.{List}
use mathlib.Core.Path.{◌≡◌}
use Prim.Native.Nat.{ℕ, ◌*◌, ◌≤◌, ◌<◌}
use lib.ListN.{length}
use Rattle.run_next.specs.Seen.{record_meant}
use Rattle.call_stimuli.specs.Lent.{Lent}
use Rattle.call_stimuli.proofs.SoFarLaws.{SoFar}
use Rattle.call_stimuli.proofs.carry.carry_on.Given as goal

abbrev pub invariant-loop-n : goal.invariant-loop-n
invariant-loop-n l =
    (l.conflicts ≤ l.n * 4294967295) × (l.to ≤ l.n * 16384) × (l.at ≤ length l.stimuli) × (length l.store ≡ length l.initial.store) × (length l.work ≡ length l.initial.work) × (length l.pending ≡ length l.initial.pending) × (length l.mask ≡ length l.initial.mask) × (length l.trace ≡ length l.initial.trace)
    × ((i K : List ℕ) (m : ℕ) → Lent i K m l.image (record_meant l.initial.reached) l.initial.store l.stimuli l.cycles l.initial.work l.initial.pending l.initial.mask l.initial.trace → SoFar i l.stimuli l.cycles m l.initial.store K l.store (record_meant l.reached) l.trace l.n l.conflicts l.at l.to)
    × (l.cycles < 4294967296) × (length l.stimuli < 18446744073709551616)
