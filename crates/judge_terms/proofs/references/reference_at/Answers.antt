use Rattle.judge_terms.proofs.RecordLaws.{node-is}
use Rattle.image_records.specs.References.{widened_node}
use Rattle.image_records.specs.Nodes.{constant_number, meant}
use Rattle.language.specs.References.{reference_of}
use Prim.Native.Nat.{ℕ}
use mathlib.Core.Path.{refl, ap, ap₂, sym, ◌∙◌}
use Rattle.judge_terms.proofs.references.reference_at.Goals as goal

pub returns : goal.returns
returns c =
    let v = constant_number c.args.n c.args.exprs.now in
    λ d p s. c.reference_of.ensures v
    ∙ ap₂ (λ (x y : ℕ). reference_of (widened_node x y (meant v c.node_at.result))) c.large_no-first.ensures.0 c.large_no-last.ensures.0
    ∙ sym (ap reference_of (node-is s _ c.node_at.result c.node_at.ensures refl))
