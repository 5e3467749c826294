use Rattle.judge_names.proofs.NumberLaws.{facility-place, operation-place, state-place}
use mathlib.Core.Path.{◌∙◌}
use Rattle.judge_names.proofs.numbered.place_of.Goals as goal

pub returns-then-k-f : goal.returns-then-k-f
returns-then-k-f c = c.of_facility.ensures ∙ facility-place _ _ _ _ c.if-k-f.true

pub returns-then-k-f-2 : goal.returns-then-k-f-2
returns-then-k-f-2 c = c.of_record.ensures ∙ operation-place _ _ _ _ c.if-k-f.false c.if-k-f-2.true

pub returns : goal.returns
returns c = c.of_state.ensures ∙ state-place _ _ _ _ c.if-k-f.false c.if-k-f-2.false
