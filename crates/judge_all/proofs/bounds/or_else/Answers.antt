use Rattle.judge_all.proofs.FacilityLaws.{or_else_none, or_else_some}
use Rattle.judge_verdicts.proofs.VerdictLaws.{passed-on}
use Rattle.text_words.specs.Meaning.{judged}
use mathlib.Core.Path.{ap, sym, ◌∙◌}
use Rattle.judge_all.proofs.bounds.or_else.Goals as goal

pub returns-in_err-a : goal.returns-in_err-a
returns-in_err-a c =
    λ d p x y e f. rw (passed-on _ _ c.from_residual.ensures.1) (or_else_some d p x y _ (ap judged (sym c.in_err-a.was) ∙ e))

pub returns : goal.returns
returns c =
    λ d p x y e f. or_else_none d p x y (ap judged (sym c.in_ok-a.was) ∙ e) f
