use Prim.Native.Nat.{ℕ, ◌+◌, ◌-◌, ◌%◌, ◌^◌, ◌<◌}
use mathlib.Core.List.{[], ◌∷◌}
use mathlib.Core.Path.{sym, ap, ◌∙◌}
use native.Mathlib.Nat.{mod-eq_of_lt}
use Rattle.language.specs.Value.{difference_number}
use Rattle.value_limbs.specs.Limbs.{number}
use Rattle.value_limbs.proofs.Laws.{borrow-four, borrow-difference, borrow-less, cat-lt, four-lt}
use borrow.Author.Rules.{rules}
use Rattle.value_limbs.proofs.sums.difference.Goals as goal

pub returns : goal.returns
unfolding number difference_number
returns c =
    let x = number c.args.x in
    let r = c.borrowing_sub-d0.result.0 ∷ c.borrowing_sub-d1.result.0 ∷ c.borrowing_sub-d2.result.0 ∷ c.borrowing_sub-d3.result.0 ∷ [] in
    let whole = borrow-four c.args.x c.args.y r _ _ _ _ c.borrowing_sub-d0.ensures c.borrowing_sub-d1.ensures c.borrowing_sub-d2.ensures c.borrowing_sub-d3.ensures in
    let below : number r < 2 ^ 256 = cat-lt (search rules) (search rules) (search rules) (search rules) in
    let y_below = four-lt {x = c.args.y} (search rules) in
    (borrow-difference whole below y_below ∙ ap (λ (n : ℕ). (x + (2 ^ 256 - n)) % 2 ^ 256) (sym (mod-eq_of_lt y_below)), borrow-less _ whole below y_below)
