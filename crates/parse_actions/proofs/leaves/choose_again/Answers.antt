use mathlib.Core.Path.{ap, ◌∙◌}
use Prim.Native.Nat.{ℕ, ◌-◌}
use Rattle.language.specs.Description as D
use Rattle.parse_actions.proofs.Rewriting.{again}
use Rattle.parse_actions.proofs.leaves.choose_again.Goals as goal

pub returns : goal.returns
returns c =
    again (ap (λ (k : ℕ). D.choose k c.args.arms c.behind.result) c.last.ensures ∙ ap (D.choose (c.args.nodes - 1) c.args.arms) c.behind.ensures) c.rewrite_action.ensures
