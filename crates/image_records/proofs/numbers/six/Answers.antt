use mathlib.Core.Path.{sym, ap₂, ◌∙◌}
use Prim.Native.Nat.{ℕ, ◌+◌, ◌*◌}
use native.Mathlib.Omega.{arith}
use Rattle.image_records.proofs.NumberLaws.{number-six, number_past}
use Rattle.image_records.proofs.numbers.six.Goals as goal

pub returns-then-s-at : goal.returns-then-s-at
returns-then-s-at c =
    (sym (number_past 6 c.args.at c.args.s.now (omega (arith, c.if-s-at.true))), omega arith)

pub returns : goal.returns
returns c =
    (ap₂ (λ (m n : ℕ). m + n * 0x100000000) c.four.ensures c.two.ensures ∙ sym (number-six _ _), omega arith)
