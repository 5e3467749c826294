use Rattle.judge_records.specs.Noted.{large_no}
use native.Mathlib.Omega.{arith}
use Prim.Native.Nat.{ℕ, ◌/◌}
use mathlib.Core.Path.{ap}
use Rattle.judge_records.proofs.places.large_no.Goals as goal

pub returns : goal.returns
unfolding large_no
returns c =
    (ap (λ (h : ℕ). h / 32768) c.half.ensures, omega arith)
