use mathlib.Core.Path.{◌≡◌}
use Rattle.store_layout.specs.Slices.{copied}
use Rattle.store_layout.proofs.Writing.{written}
use Rattle.store_words.proofs.slices.copy.Given as goal

abbrev pub invariant-loop-i : goal.invariant-loop-i
invariant-loop-i l = l.s ≡ written (copied l.initial.s l.source) l.i l.initial.s
