use mathlib.Core.Path.{sym, ap₂, ◌∙◌}
use Prim.Native.Nat.{ℕ, ◌+◌, ◌*◌}
use native.Mathlib.Omega.{arith}
use Rattle.image_records.proofs.NumberLaws.{number-six}
use Rattle.image_records.proofs.numbers.six_there.Goals as goal

pub returns : goal.returns
returns c =
    (ap₂ (λ (m n : ℕ). m + n * 0x100000000) c.four_there.ensures c.two_there.ensures ∙ sym (number-six _ _), omega arith)
