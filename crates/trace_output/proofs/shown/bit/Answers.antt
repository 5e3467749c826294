use mathlib.Core.Path.{ap}
use Prim.Native.Nat.{ℕ, ◌+◌, ◌<◌}
use native.Mathlib.Omega.{arith}
use Rattle.language.specs.Value.{Value}
use Rattle.trace_output.proofs.BitLaws.{bit-loaded, bit-small}
use Rattle.trace_output.proofs.shown.bit.Goals as goal

pub overflow_cast-b : goal.overflow_cast-b
overflow_cast-b c =
    let p : c.low64-b.result < 2 = bit-small c.args.store.now c.args.place c.args.length c.args.k c.requires.0 c.requires.1 (ap (λ (v : Value). v.number) c.load-v.ensures) c.low64-b.ensures in
    omega arith

pub overflow_add-result : goal.overflow_add-result
overflow_add-result c =
    let p : c.low64-b.result < 2 = bit-small c.args.store.now c.args.place c.args.length c.args.k c.requires.0 c.requires.1 (ap (λ (v : Value). v.number) c.load-v.ensures) c.low64-b.ensures in
    omega arith

pub returns : goal.returns
returns c =
    ap (λ (b : ℕ). b + 48) (bit-loaded c.args.store.now c.args.place c.args.length c.args.k c.requires.0 c.requires.1 (ap (λ (v : Value). v.number) c.load-v.ensures) c.low64-b.ensures)
