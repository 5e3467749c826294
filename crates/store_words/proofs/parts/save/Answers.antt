use mathlib.Core.Path.{◌≡◌, ap, sym, ◌∙◌}
use Prim.Native.Nat.{ℕ, ◌+◌, ◌-◌}
use native.Mathlib.Omega.{arith}
use Rattle.value_limbs.specs.Limbs.{number}
use Rattle.store_layout.specs.Parts.{with_part}
use Rattle.store_layout.proofs.ByteOrder.{word_room}
use Rattle.store_words.proofs.PartLaws.{inside-true, saved-inside, saved-outside}
use Rattle.store_words.proofs.parts.save.Goals as goal

pub overflow_sub-low : goal.overflow_sub-low
overflow_sub-low c =
    let i = inside-true _ _ _ _ _ c.inside.ensures c.if-inside.true in omega arith

pub overflow_sub-low-then-inside : goal.overflow_sub-low-then-inside
overflow_sub-low-then-inside c =
    let i = inside-true _ _ _ _ _ c.inside.ensures c.if-inside.true in omega arith

pub save_limbs-requires : goal.save_limbs-requires
save_limbs-requires c =
    let i = inside-true _ _ _ _ _ c.inside.ensures c.if-inside.true in
    let r = word_room c.args.length in
    (i.0, omega arith, i.2)

pub returns-then-inside : goal.returns-then-inside
returns-then-inside c =
    let i = inside-true _ _ _ _ _ c.inside.ensures c.if-inside.true in
    let e : c.args.length - c.args.count - c.args.from ≡ c.args.length - (c.args.from + c.args.count) = omega arith in
    let v : ℕ = number c.args.v.limbs in
    c.save_limbs.ensures ∙ ap (λ (n : ℕ). with_part c.args.s.now c.args.at c.args.length n c.args.count v) e
    ∙ sym (saved-inside c.args.s.now c.args.at c.args.length c.args.from c.args.count v (sym c.inside.ensures ∙ c.if-inside.true))

pub returns-else-inside : goal.returns-else-inside
returns-else-inside c =
    sym (saved-outside c.args.s.now c.args.at c.args.length c.args.from c.args.count (number c.args.v.limbs) (sym c.inside.ensures ∙ c.if-inside.false))
