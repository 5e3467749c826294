use Rattle.judge_terms.proofs.RecordLaws.{at-is, no-constant, node-is}
use Rattle.image_records.specs.Nodes.{meant}
use Rattle.language.specs.declared.refusals.Refusal.TheVariants.{BadSubscript}
use Rattle.language.specs.WordStage.{least}
use Rattle.language.specs.Words as W
use Rattle.language.specs.Description.{number_of_constant}
use Rattle.language.specs.Judging as L
use mathlib.Core.Bool.{Bool}
use mathlib.Core.Path.{refl, ap, ap₂, sym, ◌∙◌}
use borrow.Enum.Refused.{opened}
use Rattle.judge_terms.proofs.references.subscript_faults.Goals as goal

pub returns-in_default : goal.returns-in_default
unfolding least
returns-in_default c =
    λ d p t s. rw (ap number_of_constant (node-is s _ c.node_at.result c.node_at.ensures refl) ∙ no-constant _ _ _ c.node_at.result (opened c.in_default.in_default-own.keys2))

pub returns : goal.returns
returns c =
    λ d p t s. rw (ap number_of_constant (node-is s _ c.node_at.result c.node_at.ensures c.in-Constant.is))
    (c.unless.ensures ∙ ap₂ (λ (b : Bool) (q : W.Position). least (L.unless b q BadSubscript))
    (c.within.ensures _ (sym c.node_at.ensures ∙ ap (meant _) c.in-Constant.is)) (at-is s _ c.of_node-at.ensures))
