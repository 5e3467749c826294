use mathlib.Core.List.{List}
use mathlib.Core.Path.{refl, ap, ◌∙◌}
use Prim.Native.Nat.{ℕ, ◌+◌, ◌*◌}
use native.Mathlib.Omega.{arith}
use lib.ListN.{get_or, length}
use lib.Seq.{take_all}
use Rattle.language.specs.Encode.{four}
use Rattle.language.specs.RecordBytes.{fours}
use Rattle.image_records.proofs.ByteLaws.{placed-length}
use Rattle.image_records.specs.Placed.{placed}
use Rattle.run_soundness.proofs.RecordLaws.{fours-placed, nothing_placed}
use Rattle.run_soundness.proofs.record.write_returns.Goals as goal

pub loop-i-init : goal.loop-i-init
unfolding fours
loop-i-init c =
    (refl, λ h. nothing_placed _ 16 (omega arith))

pub loop-i-preserved : goal.loop-i-preserved
loop-i-preserved c = (
  ap length c.write_four.ensures ∙ (placed-length c.loop-i.bytes _ _ ∙ c.loop-i.invariant.0),
  λ h. c.write_four.ensures ∙ (ap (λ (s : List ℕ). placed s (16 + 4 * c.loop-i.i) (four (get_or c.args.returns c.loop-i.i 0))) (c.loop-i.invariant.1 h) ∙ fours-placed c.args.bytes.now c.args.returns 16 c.loop-i.i (omega arith) (omega arith)),
)

pub returns : goal.returns
returns c =
    λ h.
    c.loop-i.invariant.1 h ∙ ap (λ (xs : List ℕ). placed c.args.bytes.now 16 (fours xs)) (take_all c.loop-i.i c.args.returns (omega arith))
