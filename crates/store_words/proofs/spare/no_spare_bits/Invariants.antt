use mathlib.Core.Path.{◌≡◌}
use Prim.Native.Nat.{◌+◌, ◌-◌, ◌*◌}
use lib.ListN.{drop}
use Rattle.language.specs.Store.{all_narrow, words_from}
use Rattle.store_layout.specs.Spare.{narrow_at}
use Rattle.store_words.proofs.spare.no_spare_bits.Given as goal

abbrev pub invariant-loop-i : goal.invariant-loop-i
invariant-loop-i l = all_narrow l.length (words_from (l.words - l.i) l.length (drop (l.at + l.n * l.i) l.s)) ≡ narrow_at l.s l.at l.words l.length
