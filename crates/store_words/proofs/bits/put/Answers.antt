use mathlib.Core.Path.{◌≡◌, ap, ◌∙◌}
use Prim.Native.Nat.{ℕ, ◌+◌, ◌-◌, ◌/◌, ◌%◌}
use native.Mathlib.Omega.{arith}
use lib.ListN.{get_or, set}
use Rattle.language.specs.Value.{replaced}
use Rattle.store_layout.specs.Parts.{with_part}
use Rattle.store_layout.proofs.ByteOrder.{position-lt}
use Rattle.store_words.proofs.PartLaws.{byte-saved}
use Rattle.store_words.proofs.bits.put.Goals as goal

pub position_of-requires : goal.position_of-requires
position_of-requires c =
    let u = c.in_one_byte.ensures c.if-in_one_byte.true in omega (arith, u.some)

pub overflow_add-i : goal.overflow_add-i
overflow_add-i c =
    let u = c.in_one_byte.ensures c.if-in_one_byte.true in
    let q = position-lt c.args.length (c.args.low / 8) (omega (arith, u.some)) in
    omega arith

pub bounds-s-i : goal.bounds-s-i
bounds-s-i c =
    let u = c.in_one_byte.ensures c.if-in_one_byte.true in
    let q = position-lt c.args.length (c.args.low / 8) (omega (arith, u.some)) in
    omega arith

pub insert-requires : goal.insert-requires
insert-requires c =
    (c.in_one_byte.ensures c.if-in_one_byte.true).in-byte

pub bounds-s-i-then-in_one_byte : goal.bounds-s-i-then-in_one_byte
bounds-s-i-then-in_one_byte c =
    let u = c.in_one_byte.ensures c.if-in_one_byte.true in
    let q = position-lt c.args.length (c.args.low / 8) (omega (arith, u.some)) in
    omega arith

pub returns-then-in_one_byte : goal.returns-then-in_one_byte
returns-then-in_one_byte c =
    let u = c.in_one_byte.ensures c.if-in_one_byte.true in
    let e : c.args.low + (c.args.count - c.args.count) ≡ c.args.low = omega arith in
    ap (set c.args.s.now (c.args.at + c.position_of.result)) c.insert.ensures
    ∙ ap (λ (p : ℕ). set c.args.s.now (c.args.at + p) (replaced (get_or c.args.s.now (c.args.at + p) 0) (c.args.low % 8) c.args.count c.args.v)) c.position_of.ensures
    ∙ byte-saved c.args.s.now c.args.at c.args.length c.requires.0 (λ i. (c.slice_known-then-in_one_byte-1.given i).fits) c.args.low c.args.count u c.requires.1 c.args.v
    ∙ ap (λ (m : ℕ). with_part c.args.s.now c.args.at c.args.length m c.args.count c.args.v) e
