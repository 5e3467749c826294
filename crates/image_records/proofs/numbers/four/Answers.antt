use mathlib.Core.Path.{sym, ap₂, ◌∙◌}
use Prim.Native.Nat.{ℕ, ◌+◌, ◌*◌}
use native.Mathlib.Omega.{arith}
use Rattle.image_records.proofs.NumberLaws.{number-four, number_past}
use Rattle.image_records.proofs.numbers.four.Goals as goal

pub returns-then-s-at : goal.returns-then-s-at
returns-then-s-at c =
    sym (number_past 4 c.args.at c.args.s.now (omega (arith, c.if-s-at.true)))

pub returns : goal.returns
returns c =
    ap₂ (λ (m n : ℕ). m + n * 0x10000) c.two.ensures c.two-2.ensures ∙ sym (number-four _ _)
