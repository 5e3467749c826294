use mathlib.Core.Path.{◌≡◌, refl, sym, ap, ◌∙◌}
use mathlib.Core.List.{List}
use Prim.Native.Nat.{ℕ, min}
use native.Mathlib.Omega.{arith}
use lib.ListN.{get_or, length, set}
use Rattle.store_layout.specs.Slices.{land_bits, landed}
use Rattle.store_layout.proofs.Writing.{landed_at, landed-rest, length-landed, length-written, written, written_all, written-more, written-rest}
use Rattle.store_words.proofs.delayed.land.Goals as goal

pub loop-i-init : goal.loop-i-init
unfolding written
loop-i-init c =
    refl

pub bounds-store-i : goal.bounds-store-i
bounds-store-i c =
    let h = ap length c.loop-i.invariant ∙ length-written (landed c.args.store.now c.args.pending.now c.args.mask.now) c.args.store.now (length-landed c.args.store.now c.args.pending.now c.args.mask.now) c.loop-i.i (omega arith) in
    omega arith

pub bounds-store-i-in-loop-i : goal.bounds-store-i-in-loop-i
bounds-store-i-in-loop-i c =
    let h = ap length c.loop-i.invariant ∙ length-written (landed c.args.store.now c.args.pending.now c.args.mask.now) c.args.store.now (length-landed c.args.store.now c.args.pending.now c.args.mask.now) c.loop-i.i (omega arith) in
    omega arith

pub loop-i-preserved : goal.loop-i-preserved
loop-i-preserved c =
    let L : List ℕ = landed c.args.store.now c.args.pending.now c.args.mask.now in
    let old : get_or c.loop-i.store c.loop-i.i 0 ≡ get_or c.args.store.now c.loop-i.i 0 = ap (λ (X : List ℕ). get_or X c.loop-i.i 0) c.loop-i.invariant ∙ written-rest L c.args.store.now (length-landed c.args.store.now c.args.pending.now c.args.mask.now) c.loop-i.i c.loop-i.i (omega arith) (omega arith) in
    let new : c.land_bits.result ≡ get_or L c.loop-i.i 0 = c.land_bits.ensures ∙ ap (λ (b : ℕ). land_bits b (get_or c.args.pending.now c.loop-i.i 0) (get_or c.args.mask.now c.loop-i.i 0)) old ∙ sym (landed_at c.args.store.now c.args.pending.now c.args.mask.now c.loop-i.i (omega arith) (omega arith) (omega arith)) in
    ap (λ (X : List ℕ). set X c.loop-i.i c.land_bits.result) c.loop-i.invariant ∙ ap (set (written L c.loop-i.i c.args.store.now) c.loop-i.i) new ∙ written-more L c.args.store.now (length-landed c.args.store.now c.args.pending.now c.args.mask.now) c.loop-i.i (omega arith)

pub returns : goal.returns
returns c =
    let z : c.loop-i.i ≡ min (length c.args.store.now) (min (length c.args.pending.now) (length c.args.mask.now)) = omega arith in
    c.loop-i.invariant ∙ written_all (landed c.args.store.now c.args.pending.now c.args.mask.now) c.args.store.now (length-landed c.args.store.now c.args.pending.now c.args.mask.now) c.loop-i.i (omega arith) (λ k g. landed-rest c.args.store.now c.args.pending.now c.args.mask.now k (omega arith))
