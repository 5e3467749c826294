use Prim.Native.Nat.{ℕ}
use native.Mathlib.Omega.{arith}
use lib.Seq.{take_all}
use Rattle.language.specs.Trace as T
use Rattle.store_layout.specs.Layout.{word_in}
use Rattle.trace_output.proofs.AddsLaws.{adds-as, adds-both, adds_none}
use Rattle.trace_output.proofs.BitLaws.{bits-more, length-bits}
use Rattle.trace_output.proofs.shown.bits.Goals as goal

pub loop-k-init : goal.loop-k-init
loop-k-init c = adds_none _ _

pub loop-k-preserved : goal.loop-k-preserved
loop-k-preserved c =
    adds-as (adds-both c.loop-k.invariant c.push-end.ensures) (bits-more c.args.length (word_in c.args.store.now c.args.place c.args.length) c.loop-k.k c.loop-k-test.true c.bit.ensures)

pub shape_of-out : goal.shape_of-out
shape_of-out c = c.loop-k.invariant.long

pub returns : goal.returns
returns c =
    let w : ℕ = word_in c.args.store.now c.args.place c.args.length in
    adds-as c.loop-k.invariant (take_all c.loop-k.k (T.bits c.args.length w) (omega (arith, length-bits c.args.length w, c.loop-k-test.false)))
