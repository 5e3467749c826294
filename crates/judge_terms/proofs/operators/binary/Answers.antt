use Rattle.judge_verdicts.specs.declared.Worth.{Worth}
use Rattle.judge_verdicts.proofs.VerdictLaws.{both-fine, pair-faulty, pair-known, passed-on, sized_same}
use Rattle.language.specs.Operators.{binary_length}
use mathlib.Core.Path.{ap, ap₂, ◌∙◌}
use Rattle.judge_terms.proofs.operators.binary.Goals as goal

pub returns : goal.returns
returns c =
    λ q j k z e f. both-fine j k _ _ _ (pair-known j k c.both.ensures c.in_ok-v.was e f)
    (λ x y m n. c.sized.ensures _ (c.with_two.ensures _ _ (ap (λ (v : Worth). v.work) m) (ap (λ (v : Worth). v.work) n))
    ∙ sized_same _ z (c.binary_length-length.ensures ∙ ap₂ (binary_length c.args.kind) (ap (λ (v : Worth). v.length) m) (ap (λ (v : Worth). v.length) n)))

pub returns-in_err-v : goal.returns-in_err-v
returns-in_err-v c =
    λ q j k z e f. rw (passed-on _ _ c.from_residual.ensures.1) (pair-faulty j k _ _ (pair-known j k c.both.ensures c.in_err-v.was e f))
