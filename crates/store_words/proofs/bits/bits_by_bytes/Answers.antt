use Rattle.store_layout.proofs.ByteOrder.{few-spare, position-lt}
use mathlib.Core.Path.{◌≡◌, sym, ap, ap₂, ◌∙◌}
use Prim.Native.Nat.{ℕ, ◌+◌, ◌-◌, ◌*◌, ◌/◌, ◌%◌, ◌^◌, ◌≤◌}
use native.Mathlib.Nat.{mod-lt, mod-one}
use native.Mathlib.Omega.{arith}
use lib.ListN.{get_or}
use lib.Pow.{pow_mono, pow_pos}
use Rattle.store_layout.specs.Layout.{word_in}
use Rattle.store_layout.specs.Parts.{part_in}
use Rattle.store_words.proofs.PartLaws.{load-turn, part-lt}
use Rattle.store_words.proofs.bits.bits_by_bytes.Goals as goal

pub loop-left-init : goal.loop-left-init
unfolding part_in
loop-left-init c =
    let z : c.args.count - c.args.count ≡ 0 = omega arith in
    (omega arith, rw z (sym (mod-one (word_in c.args.s.now c.args.at c.args.length / 2 ^ (c.args.low + c.args.count)))))

pub uppermost-c-requires : goal.uppermost-c-requires
uppermost-c-requires c =
    let r = few-spare c.args.length in (omega arith, omega arith)

pub position_of-requires : goal.position_of-requires
position_of-requires c =
    omega (arith, c.uppermost-c.ensures.place, c.uppermost-c.ensures.some)

pub overflow_add-b : goal.overflow_add-b
overflow_add-b c =
    let q = position-lt c.args.length c.uppermost-c.result.byte (omega (arith, c.uppermost-c.ensures.place, c.uppermost-c.ensures.some)) in
    omega arith

pub bounds-s-at : goal.bounds-s-at
bounds-s-at c =
    let q = position-lt c.args.length c.uppermost-c.result.byte (omega (arith, c.uppermost-c.ensures.place, c.uppermost-c.ensures.some)) in
    omega arith

pub field-requires : goal.field-requires
field-requires c =
    c.uppermost-c.ensures.in-byte

pub join-acc-requires : goal.join-acc-requires
join-acc-requires c =
    let n : ℕ = c.uppermost-c.result.bits in
    let e : c.loop-left.acc * 2 ^ n ≡ part_in c.args.s.now c.args.at c.args.length (c.args.low + c.loop-left.left) (c.args.count - c.loop-left.left) * 2 ^ n = ap (λ (x : ℕ). x * 2 ^ n) c.loop-left.invariant.1 in
    let t = load-turn c.args.s.now c.args.at c.args.length c.requires.0 (λ i. (c.type_inv.s i).fits) c.args.low c.loop-left.left c.uppermost-c.ensures (omega arith) c.args.count c.loop-left.invariant.0 in
    let p = part-lt c.args.s.now c.args.at c.args.length (c.args.low + (c.loop-left.left - n)) (c.args.count - (c.loop-left.left - n)) in
    let q : 2 ^ (c.args.count - (c.loop-left.left - n)) ≤ 2 ^ 64 = pow_mono {i = c.args.count - (c.loop-left.left - n)} {j = 64} (omega arith) in
    (omega (arith, c.uppermost-c.ensures.in-byte), rw c.field.ensures (mod-lt (get_or c.args.s.now (c.args.at + c.position_of.result) 0 / 2 ^ c.uppermost-c.result.shift) (pow_pos n)), omega arith)

pub overflow_sub-left : goal.overflow_sub-left
overflow_sub-left c =
    c.uppermost-c.ensures.few

pub loop-left-smaller : goal.loop-left-smaller
loop-left-smaller c =
    omega (arith, c.uppermost-c.ensures.some, c.uppermost-c.ensures.few)

pub loop-left-preserved : goal.loop-left-preserved
loop-left-preserved c =
    let t = load-turn c.args.s.now c.args.at c.args.length c.requires.0 (λ i. (c.type_inv.s i).fits) c.args.low c.loop-left.left c.uppermost-c.ensures (omega arith) c.args.count c.loop-left.invariant.0 in
    let f = c.field.ensures ∙ ap (λ (p : ℕ). get_or c.args.s.now (c.args.at + p) 0 / 2 ^ c.uppermost-c.result.shift % 2 ^ c.uppermost-c.result.bits) c.position_of.ensures in
    (omega arith, c.join-acc.ensures ∙ ap₂ (λ (x y : ℕ). x * 2 ^ c.uppermost-c.result.bits + y) c.loop-left.invariant.1 f ∙ sym t)

pub returns : goal.returns
returns c =
    let z : c.loop-left.left ≡ 0 = omega arith in
    c.loop-left.invariant.1 ∙ ap₂ (λ (m n : ℕ). part_in c.args.s.now c.args.at c.args.length m n) (omega arith) (omega arith)
