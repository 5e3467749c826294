use Rattle.text_words.specs.Meaning.{lesser}
use Rattle.text_words.proofs.Least.{least-both}
use mathlib.Core.Path.{ap₂, sym, ◌∙◌}
use Rattle.judge_verdicts.proofs.faults.also.Goals as goal

pub returns : goal.returns
returns c =
    λ x y p q. c.earlier.ensures ∙ ap₂ lesser p q ∙ sym (least-both x y)
