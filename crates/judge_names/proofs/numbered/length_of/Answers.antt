use Rattle.judge_names.proofs.NumberLaws.{facility-length, no_length, operation-length, state-length}
use mathlib.Core.Path.{◌∙◌}
use Rattle.judge_names.proofs.numbered.length_of.Goals as goal

pub returns-then-k-f : goal.returns-then-k-f
returns-then-k-f c = c.byte.ensures ∙ facility-length _ _ _ _ c.if-k-f.true

pub returns-then-k-f-2 : goal.returns-then-k-f-2
returns-then-k-f-2 c = c.byte-then-k-f-2.ensures ∙ operation-length _ _ _ _ c.if-k-f.false c.if-k-f-2.true

pub returns-then-k-f-3 : goal.returns-then-k-f-3
returns-then-k-f-3 c = c.byte-then-k-f-3.ensures ∙ state-length _ _ _ _ c.if-k-f.false c.if-k-f-2.false c.if-k-f-3.true

pub returns : goal.returns
returns c = no_length _ _ _ _ c.if-k-f.false c.if-k-f-2.false c.if-k-f-3.false
