use mathlib.Core.Path.{◌≡◌, sym, ap, ◌∙◌}
use Prim.Native.Nat.{ℕ, suc, ◌+◌}
use native.Mathlib.Omega.{arith}
use lib.ListN.{take}
use lib.Seq.{take_all, take-suc}
use Rattle.trace_output.proofs.AddsLaws.{adds-as, adds-both, adds_none}
use Rattle.trace_output.proofs.out.append.Goals as goal

pub loop-b-init : goal.loop-b-init
loop-b-init c = adds_none _ _

pub loop-b-preserved : goal.loop-b-preserved
loop-b-preserved c =
    let e : c.loop-b.b-index + 1 ≡ suc c.loop-b.b-index = omega arith in
    adds-as (adds-both c.loop-b.invariant c.push-end.ensures) (sym (ap (λ (n : ℕ). take n c.args.bytes.now) e ∙ take-suc c.args.bytes.now c.loop-b.b-index 0 (omega arith)))

pub shape_of-out : goal.shape_of-out
shape_of-out c = c.loop-b.invariant.long

pub returns : goal.returns
returns c =
    adds-as c.loop-b.invariant (take_all c.loop-b.b-index c.args.bytes.now (omega arith))
