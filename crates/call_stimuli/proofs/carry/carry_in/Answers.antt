use mathlib.Core.Path.{sym}
use Prim.Native.Nat.{◌-◌}
use native.Mathlib.Omega.{arith}
use lib.ListN.{length}
use lib.Seq.{length-take-le}
use Rattle.language.specs.Layout.{store_size}
use Rattle.call_stimuli.proofs.RunLaws.{run-record, run-scratch}
use Rattle.call_stimuli.proofs.carry.carry_in.Goals as goal

pub slice_bounds-carry_on-end : goal.slice_bounds-carry_on-end
unfolding store_size
slice_bounds-carry_on-end c =
    let k = c.args.«record».now in
    let m = length c.args.scratch.now in
    let t = length c.args.trace.now in
    omega (arith, c.requires.2, run-scratch c.args.image.now c.args.stimuli.now c.args.cycles m c.args.store.now k t c.requires.0)

pub carry_on-a-requires : goal.carry_on-a-requires
unfolding store_size
carry_on-a-requires c =
    let k = c.args.«record».now in
    let m = length c.args.scratch.now in
    let t = length c.args.trace.now in
    let copy = length-take-le (c.args.n - 0) c.args.scratch.now (omega (arith, c.requires.2, run-scratch c.args.image.now c.args.stimuli.now c.args.cycles m c.args.store.now k t c.requires.0)) in
    let waiting = length-take-le (c.args.n - 0) c.args.pending.now (omega (arith, c.requires.3)) in
    let masked = length-take-le (c.args.n - 0) c.args.mask.now (omega (arith, c.requires.4)) in
    record { image = c.args.image.now; kept = k; scratch = m; lent = record { sliced = record { facilities-are = c.of.ensures.facilities; operations-are = c.of.ensures.operations; expressions-are = c.of.ensures.expressions; actions-are = c.of.ensures.actions; states-are = c.of.ensures.states }; read = sym c.record_at.ensures; free = c.requires.0; copy = omega (arith, copy, c.requires.2); waiting = omega (arith, waiting, c.requires.2); masked = omega (arith, masked, c.requires.2); clear = c.requires.1 } }

pub returns : goal.returns
unfolding store_size
returns c =
    let k = c.args.«record».now in
    let m = length c.args.scratch.now in
    let t = length c.args.trace.now in
    let copy = length-take-le (c.args.n - 0) c.args.scratch.now (omega (arith, c.requires.2, run-scratch c.args.image.now c.args.stimuli.now c.args.cycles m c.args.store.now k t c.requires.0)) in
    let waiting = length-take-le (c.args.n - 0) c.args.pending.now (omega (arith, c.requires.3)) in
    let masked = length-take-le (c.args.n - 0) c.args.mask.now (omega (arith, c.requires.4)) in
    rw (c.zero.ensures, c.scratch-1.given.1, c.note.ensures (run-record c.args.image.now c.args.stimuli.now c.args.cycles m c.args.store.now k t c.requires.0))
    (c.carry_on-a.ensures c.args.image.now k m (record { sliced = record { facilities-are = c.of.ensures.facilities; operations-are = c.of.ensures.operations; expressions-are = c.of.ensures.expressions; actions-are = c.of.ensures.actions; states-are = c.of.ensures.states }; read = sym c.record_at.ensures; free = c.requires.0; copy = omega (arith, copy, c.requires.2); waiting = omega (arith, waiting, c.requires.2); masked = omega (arith, masked, c.requires.2); clear = c.requires.1 }))
