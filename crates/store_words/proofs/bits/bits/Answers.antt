use mathlib.Core.Path.{◌≡◌, ap, ◌∙◌}
use Prim.Native.Nat.{ℕ, ◌+◌, ◌-◌, ◌/◌, ◌%◌, ◌^◌}
use native.Mathlib.Omega.{arith}
use lib.ListN.{get_or}
use Rattle.store_layout.specs.Parts.{part_in}
use Rattle.store_layout.proofs.ByteOrder.{position-lt}
use Rattle.store_words.proofs.PartLaws.{byte-part}
use Rattle.store_words.proofs.bits.bits.Goals as goal

pub position_of-requires : goal.position_of-requires
position_of-requires c =
    let u = c.in_one_byte.ensures c.if-in_one_byte.true in omega (arith, u.some)

pub overflow_add-b : goal.overflow_add-b
overflow_add-b c =
    let u = c.in_one_byte.ensures c.if-in_one_byte.true in
    let q = position-lt c.args.length (c.args.low / 8) (omega (arith, u.some)) in
    omega arith

pub bounds-s-at : goal.bounds-s-at
bounds-s-at c =
    let u = c.in_one_byte.ensures c.if-in_one_byte.true in
    let q = position-lt c.args.length (c.args.low / 8) (omega (arith, u.some)) in
    omega arith

pub field-requires : goal.field-requires
field-requires c =
    (c.in_one_byte.ensures c.if-in_one_byte.true).in-byte

pub returns-then-in_one_byte : goal.returns-then-in_one_byte
returns-then-in_one_byte c =
    let u = c.in_one_byte.ensures c.if-in_one_byte.true in
    let e : c.args.low + (c.args.count - c.args.count) ≡ c.args.low = omega arith in
    c.field.ensures ∙ ap (λ (p : ℕ). get_or c.args.s.now (c.args.at + p) 0 / 2 ^ (c.args.low % 8) % 2 ^ c.args.count) c.position_of.ensures
    ∙ byte-part c.args.s.now c.args.at c.args.length c.requires.0 (λ i. (c.type_inv.s i).fits) c.args.low c.args.count u c.requires.1
    ∙ ap (λ (m : ℕ). part_in c.args.s.now c.args.at c.args.length m c.args.count) e

pub returns-then-word_bytes-lt8 : goal.returns-then-word_bytes-lt8
unfolding part_in
returns-then-word_bytes-lt8 c =
    c.low.ensures ∙ ap (λ (x : ℕ). x / 2 ^ c.args.low % 2 ^ c.args.count) c.word.ensures
