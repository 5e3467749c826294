use native.Mathlib.Omega.{arith}
use Prim.Native.Nat.{ℕ}
use lib.ListN.{length-replicate}
use Rattle.image_records.proofs.ByteLaws.{placed-nothing}
use Rattle.run_begin.proofs.SizeLaws.{cleared}
use Rattle.run_begin.proofs.ranges.clear.Goals as goal

pub returns-then-s-at : goal.returns-then-s-at
returns-then-s-at c =
    placed-nothing _ _ _ (omega (arith, length-replicate {A = ℕ} c.args.n 0))

pub returns : goal.returns
returns c =
    cleared c.args.s.now c.args.at c.args.n _ (omega arith) c.zero.ensures
