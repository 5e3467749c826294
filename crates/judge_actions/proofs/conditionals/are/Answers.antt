use Rattle.judge_verdicts.proofs.CappedLaws.{capped-eqb}
use lib.Dec.{eqb}
use Prim.Native.Nat.{ℕ}
use mathlib.Core.Path.{ap, ◌∙◌}
use borrow.Author.Rules.{rules}
use Rattle.judge_actions.proofs.conditionals.are.Goals as goal

pub returns : goal.returns
returns c =
    λ a e. ap (λ (k : ℕ). eqb k c.args.n) e ∙ capped-eqb a c.args.n (search rules)
