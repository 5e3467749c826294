use mathlib.Core.Path.{◌≡◌, ap, sym, ◌∙◌}
use Prim.Native.Nat.{ℕ, ◌+◌, ◌-◌}
use native.Mathlib.Omega.{arith}
use Rattle.language.specs.Value.{value}
use Rattle.value_limbs.specs.Limbs.{number}
use Rattle.store_layout.specs.Parts.{part_in}
use Rattle.store_layout.proofs.ByteOrder.{word_room}
use Rattle.store_words.proofs.PartLaws.{inside-true, loaded-inside, loaded-outside}
use Rattle.store_words.proofs.parts.load.Goals as goal

pub overflow_sub-low : goal.overflow_sub-low
overflow_sub-low c =
    let i = inside-true _ _ _ _ _ c.inside.ensures c.if-inside.true in omega arith

pub overflow_sub-low-then-inside : goal.overflow_sub-low-then-inside
overflow_sub-low-then-inside c =
    let i = inside-true _ _ _ _ _ c.inside.ensures c.if-inside.true in omega arith

pub load_limbs-requires : goal.load_limbs-requires
load_limbs-requires c =
    let i = inside-true _ _ _ _ _ c.inside.ensures c.if-inside.true in
    let r = word_room c.args.length in
    (i.0, omega arith, i.2)

pub overflow_cast-result : goal.overflow_cast-result
overflow_cast-result c =
    let i = inside-true _ _ _ _ _ c.inside.ensures c.if-inside.true in omega arith

pub returns-then-inside : goal.returns-then-inside
returns-then-inside c =
    let i = inside-true _ _ _ _ _ c.inside.ensures c.if-inside.true in
    let e : c.args.length - c.args.count - c.args.from ≡ c.args.length - (c.args.from + c.args.count) = omega arith in
    ap (value c.args.count) (c.load_limbs.ensures ∙ ap (λ (n : ℕ). part_in c.args.s.now c.args.at c.args.length n c.args.count) e)
    ∙ sym (loaded-inside c.args.s.now c.args.at c.args.length c.args.from c.args.count (sym c.inside.ensures ∙ c.if-inside.true))

pub returns-else-inside : goal.returns-else-inside
unfolding number
returns-else-inside c =
    sym (loaded-outside c.args.s.now c.args.at c.args.length c.args.from c.args.count (sym c.inside.ensures ∙ c.if-inside.false))
