use mathlib.Core.Path.{◌≡◌}
use Rattle.store_layout.specs.Slices.{landed}
use Rattle.store_layout.proofs.Writing.{written}
use Rattle.store_words.proofs.delayed.land.Given as goal

abbrev pub invariant-loop-i : goal.invariant-loop-i
invariant-loop-i l = l.store ≡ written (landed l.initial.store l.pending l.mask) l.i l.initial.store
