use Rattle.store_layout.proofs.ByteOrder.{few-spare, position-lt}
use mathlib.Core.Path.{◌≡◌, refl, sym, ap, ◌∙◌}
use Prim.Native.Nat.{ℕ, ◌+◌, ◌-◌, ◌/◌, ◌^◌, ◌<◌}
use native.Mathlib.Omega.{arith}
use lib.ListN.{get_or, length-set, set}
use Rattle.language.specs.Value.{replaced}
use Rattle.store_layout.specs.Parts.{with_part}
use Rattle.store_layout.proofs.ByteLists.{bytes-set}
use Rattle.store_layout.proofs.Numbers.{replaced-lt}
use Rattle.store_words.proofs.PartLaws.{save-turn, saved-none}
use Rattle.store_words.proofs.bits.put_by_bytes.Goals as goal

pub loop-left-init : goal.loop-left-init
loop-left-init c =
    (omega arith, refl, λ i. (c.type_inv.s i).fits, refl)

pub uppermost-c-requires : goal.uppermost-c-requires
uppermost-c-requires c =
    let r = few-spare c.args.length in (omega arith, omega arith)

pub position_of-requires : goal.position_of-requires
position_of-requires c =
    omega (arith, c.uppermost-c.ensures.place, c.uppermost-c.ensures.some)

pub overflow_add-i : goal.overflow_add-i
overflow_add-i c =
    let q = position-lt c.args.length c.uppermost-c.result.byte (omega (arith, c.uppermost-c.ensures.place, c.uppermost-c.ensures.some)) in
    omega arith

pub bounds-s-i : goal.bounds-s-i
bounds-s-i c =
    let q = position-lt c.args.length c.uppermost-c.result.byte (omega (arith, c.uppermost-c.ensures.place, c.uppermost-c.ensures.some)) in
    omega arith

pub overflow_sub-left : goal.overflow_sub-left
overflow_sub-left c =
    c.uppermost-c.ensures.few

pub overflow_shr-v : goal.overflow_shr-v
overflow_shr-v c =
    omega (arith, c.uppermost-c.ensures.some)

pub insert-requires : goal.insert-requires
insert-requires c =
    omega (arith, c.uppermost-c.ensures.in-byte)

pub bounds-s-i-in-loop-left : goal.bounds-s-i-in-loop-left
bounds-s-i-in-loop-left c =
    let q = position-lt c.args.length c.uppermost-c.result.byte (omega (arith, c.uppermost-c.ensures.place, c.uppermost-c.ensures.some)) in
    omega arith

pub loop-left-smaller : goal.loop-left-smaller
loop-left-smaller c =
    omega (arith, c.uppermost-c.ensures.some, c.uppermost-c.ensures.few)

pub loop-left-preserved : goal.loop-left-preserved
loop-left-preserved c =
    let i : ℕ = c.args.at + c.position_of.result in
    let y : ℕ = c.insert.result in
    let small : y < 256 = rw c.insert.ensures (replaced-lt (get_or c.loop-left.s i 0) c.uppermost-c.result.shift c.uppermost-c.result.bits (c.args.v / 2 ^ (c.loop-left.left - c.uppermost-c.result.bits)) 8 c.uppermost-c.ensures.in-byte (c.loop-left.invariant.2 i)) in
    let t = save-turn c.loop-left.s c.args.at c.args.length (omega (arith, c.loop-left.invariant.1)) c.loop-left.invariant.2 c.args.low c.loop-left.left c.uppermost-c.ensures (omega arith) c.args.v in (
      omega arith,
      length-set c.loop-left.s i y ∙ c.loop-left.invariant.1,
      bytes-set c.loop-left.s i y c.loop-left.invariant.2 small,
      ap (λ (z : ℕ). with_part (set c.loop-left.s i z) c.args.at c.args.length c.args.low (c.loop-left.left - c.uppermost-c.result.bits) c.args.v) c.insert.ensures
          ∙ ap (λ (p : ℕ). with_part (set c.loop-left.s (c.args.at + p) (replaced (get_or c.loop-left.s (c.args.at + p) 0) c.uppermost-c.result.shift c.uppermost-c.result.bits (c.args.v / 2 ^ (c.loop-left.left - c.uppermost-c.result.bits)))) c.args.at c.args.length c.args.low (c.loop-left.left - c.uppermost-c.result.bits) c.args.v) c.position_of.ensures
          ∙ t ∙ c.loop-left.invariant.3,
    )

pub returns : goal.returns
returns c =
    let z : 0 ≡ c.loop-left.left = omega arith in
    sym (saved-none c.loop-left.s c.args.at c.args.length (omega (arith, c.loop-left.invariant.1)) c.loop-left.invariant.2 c.args.low c.args.v) ∙ ap (λ (n : ℕ). with_part c.loop-left.s c.args.at c.args.length c.args.low n c.args.v) z ∙ c.loop-left.invariant.3
