use Rattle.judge_verdicts.specs.declared.Worth.{Worth}
use Rattle.judge_verdicts.proofs.VerdictLaws.{given-faulty, one-fine, passed-on, sized_same}
use Rattle.language.specs.Operators.{cut_length_of}
use Prim.Native.Nat.{ℕ}
use mathlib.Core.Path.{ap, sym, ◌∙◌}
use Rattle.judge_terms.proofs.operators.cut.Goals as goal

pub returns : goal.returns
returns c =
    λ q j z e. one-fine j _ _ (sym c.in_ok-v.was ∙ e)
    (λ x m. c.sized.ensures _ (c.with_one.ensures _ (ap (λ (v : Worth). v.work) m))
    ∙ sized_same _ z (c.cut_length-length.ensures ∙ ap (λ (l : ℕ). cut_length_of c.args.kind l c.args.count) (ap (λ (v : Worth). v.length) m)))

pub returns-in_err-v : goal.returns-in_err-v
returns-in_err-v c =
    λ q j z e. rw (passed-on _ _ c.from_residual.ensures.1) (given-faulty j _ _ (sym c.in_err-v.was ∙ e))
