-- What the descent needs to end: ranks in order, and tests that a rank or a head is another.
use mathlib.Core.List.{[], ◌∷◌}
use mathlib.Core.Logic.{⊎_elim}
use mathlib.Core.Path.{◌≡◌, refl, subst}
use Prim.Native.Nat.{suc, ◌≤◌, ◌<◌}
use native.Mathlib.Omega.{arith}
use types.Run.{OneOf}
use denote.Enum.Declared.{tag_of}
use Rattle.parse_levels.specs.declared.Lead.{Lead}
use Rattle.parse_levels.specs.declared.Lead.TheVariants as H
use Rattle.parse_levels.specs.declared.Rank.{Rank}
use Rattle.parse_levels.specs.declared.Rank.TheVariants as R
use Rattle.parse_levels.specs.Orders.{next_rank, operand_level, rank_no, top_no}
use Rattle.parse_levels.specs.contracts.Lead as head-type
use Rattle.parse_levels.specs.contracts.Rank as rank-type

pub not_plain : {h : Lead} → OneOf (1 ∷ 2 ∷ 3 ∷ []) (tag_of head-type.the_type h) → h ≡ H.Plain → ⊥
not_plain {h} k e =
    ⊎_elim (λ x. omega arith) (λ y. ⊎_elim (λ x. omega arith) (λ x. omega arith) y)
    (subst (λ (u : Lead). OneOf (1 ∷ 2 ∷ 3 ∷ []) (tag_of head-type.the_type u)) e k)

pub not-cut : {r : Rank} → OneOf (0 ∷ 1 ∷ 3 ∷ 4 ∷ 5 ∷ 6 ∷ 7 ∷ []) (tag_of rank-type.the_type r) → r ≡ R.Cut → ⊥
not-cut {r} k e =
    ⊎_elim (λ x. omega arith) (λ y. ⊎_elim (λ x. omega arith) (λ y. ⊎_elim (λ x. omega arith) (λ y. ⊎_elim (λ x. omega arith) (λ y. ⊎_elim (λ x. omega arith) (λ y. ⊎_elim (λ x. omega arith) (λ x. omega arith) y) y) y) y) y)
    (subst (λ (u : Rank). OneOf (0 ∷ 1 ∷ 3 ∷ 4 ∷ 5 ∷ 6 ∷ 7 ∷ []) (tag_of rank-type.the_type u)) e k)

-- The next rank is one up; an operator's right operand has only tighter ones.
pub next_up : (r : Rank) → rank_no r < 7 → rank_no (next_rank r) ≡ suc (rank_no r)
next_up R.Sum h = refl
next_up R.Relation h = refl
next_up R.Cut h = refl
next_up R.Con h = refl
next_up R.And h = refl
next_up R.Exclusive h = refl
next_up R.Or h = refl
next_up R.Beyond h = absurd (omega arith)

pub operand-tighter : (r : Rank) → top_no (operand_level r) ≤ rank_no r
operand-tighter R.Sum = omega arith
operand-tighter R.Relation = omega arith
operand-tighter R.Cut = omega arith
operand-tighter R.Con = omega arith
operand-tighter R.And = omega arith
operand-tighter R.Exclusive = omega arith
operand-tighter R.Or = omega arith
operand-tighter R.Beyond = omega arith
