use mathlib.Core.List.{List, [], ◌∷◌}
use mathlib.Core.Path.{sym}
use Prim.Native.Nat.{ℕ}
use types.Run.{miss}
use Rattle.run_expressions.specs.Chains.{operated_on}
use Rattle.run_expressions.proofs.ChainLaws.{left-value}
use borrow.Enum.Refused.{opened}
use Rattle.run_expressions.proofs.chains.operated.Goals as goal

-- All but prefix operators and cuts.
abbrev others : List ℕ
others = 0 ∷ 1 ∷ 2 ∷ 3 ∷ 4 ∷ 5 ∷ 6 ∷ 7 ∷ 10 ∷ 11 ∷ 12 ∷ 13 ∷ []

pub returns-in-Prefix : goal.returns-in-Prefix
unfolding operated_on
returns-in-Prefix c =
    λ m. rw c.in-Prefix.is c.prefix.ensures

pub returns-in-Cut : goal.returns-in-Cut
unfolding operated_on
returns-in-Cut c =
    λ m. rw c.in-Cut.is c.cut.ensures

pub returns-in_default : goal.returns-in_default
returns-in_default c =
    λ m. sym (left-value others (miss others 8 tt) (miss others 9 tt) m c.args.node (opened c.in_default.in_default-own.keys3) _)
