use mathlib.Core.Path.{◌≡◌}
use Prim.Native.Nat.{◌-◌, ◌*◌, ◌/◌, ◌^◌}
use Rattle.language.specs.Layout.{word_bytes}
use Rattle.store_layout.specs.Layout.{word_in}
use Rattle.store_words.proofs.bits.word.Given as goal

abbrev pub invariant-loop-b : goal.invariant-loop-b
invariant-loop-b l = l.acc ≡ word_in l.s l.at l.length / 2 ^ (8 * (word_bytes l.length - l.b-index))
