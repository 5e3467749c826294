use Prim.Native.Nat.{ℕ}
use native.Mathlib.Omega.{arith}
use lib.ListN.{length, length-replicate}
use Rattle.language.specs.Decode.{decode, section_at}
use Rattle.language.specs.Encode.{expressions_section, node_size}
use Rattle.language.specs.Layout.{store_size}
use Rattle.run_soundness.proofs.PassedLaws.{passed-described, passed-size}
use Rattle.about_bytes.specs.ManyCycles.{run-free}
use Rattle.call_stimuli.proofs.carry.carry_out.Goals as goal

pub carry_in-requires : goal.carry_in-requires
unfolding store_size
carry_in-requires c =
    let k = c.args.«record».now in
    let m = length c.args.scratch.now in
    let t = length c.args.trace.now in
    let p = (run-free c.args.image.now c.args.store.now k c.args.stimuli.now c.args.cycles m t c.requires.0).passing in
    let size = c.store_size-n.ensures (decode c.args.image.now) (section_at expressions_section node_size c.args.image.now) (rw c.section.ensures (passed-described c.args.image.now p)) (passed-size c.args.image.now p) in
    let room = length-replicate {A = ℕ} 1024 0 in
    (c.requires.0, c.requires.1, size, omega (arith, room, c.if-n-le-SMALL.true), omega (arith, room, c.if-n-le-SMALL.true))

pub carry_in-requires-2 : goal.carry_in-requires-2
unfolding store_size
carry_in-requires-2 c =
    let k = c.args.«record».now in
    let m = length c.args.scratch.now in
    let t = length c.args.trace.now in
    let p = (run-free c.args.image.now c.args.store.now k c.args.stimuli.now c.args.cycles m t c.requires.0).passing in
    let size = c.store_size-n.ensures (decode c.args.image.now) (section_at expressions_section node_size c.args.image.now) (rw c.section.ensures (passed-described c.args.image.now p)) (passed-size c.args.image.now p) in
    let room = length-replicate {A = ℕ} 16384 0 in
    (c.requires.0, c.requires.1, size, omega (arith, room, size, passed-size c.args.image.now p), omega (arith, room, size, passed-size c.args.image.now p))
