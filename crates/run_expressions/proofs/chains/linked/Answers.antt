use mathlib.Core.Logic.{inl, inr}
use mathlib.Core.Path.{refl, sym, ap, ◌∙◌}
use Rattle.image_records.specs.Nodes.{constant_number, meant}
use Rattle.run_expressions.specs.Chains.{operand_of}
use Rattle.run_expressions.proofs.ChainLaws.{link}
use Rattle.run_expressions.proofs.chains.linked.Goals as goal

pub returns-in-Prefix : goal.returns-in-Prefix
unfolding operand_of
returns-in-Prefix c =
    let E = c.args.expressions.now in
    let m = meant (constant_number c.args.n E) in
    elim c.in-Prefix.is [
      | inl p ↦ λ t. link E c.args.n _ _ (sym c.node_at.ensures ∙ ap m p.1) refl t
      | inr p ↦ λ t. link E c.args.n _ _ (sym c.node_at.ensures ∙ ap m p.2) refl t
    ]
