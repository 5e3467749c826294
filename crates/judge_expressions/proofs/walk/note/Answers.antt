use mathlib.Core.Path.{ap, sym, ◌∙◌}
use Rattle.image_records.specs.References.{reference_meant}
use Rattle.judge_expressions.proofs.WalkLaws.{other-noted, reference-noted}
use Rattle.judge_expressions.proofs.walk.note.Goals as goal

pub returns-in-Some : goal.returns-in-Some
returns-in-Some c =
    reference-noted _ _ _ c.note.ensures (λ d p w sh. (ap reference_meant (sym c.in-Some.is) ∙ c.reference_at.ensures d p sh.records, c.referred.ensures d p w sh))

pub returns-in-None : goal.returns-in-None
returns-in-None c =
    other-noted _ _ c.note-in-None.ensures (λ d p w sh. c.operator.ensures d p w (sym (ap reference_meant (sym c.in-None.is) ∙ c.reference_at.ensures d p sh.records)) sh)
