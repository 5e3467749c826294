use Rattle.judge_verdicts.specs.declared.Worth.{Worth}
use Rattle.judge_verdicts.proofs.VerdictLaws.{given-faulty, one-fine, or-passed, or-refused, passed-on}
use Rattle.language.specs.declared.refusals.Refusal.TheVariants.{BadStore}
use Rattle.language.specs.WordStage.{least}
use Rattle.language.specs.Words as W
use Rattle.language.specs.Tree.{Kind}
use Rattle.language.specs.Storing.{is_plain}
use Rattle.language.specs.Judging as L
use Rattle.text_words.specs.Meaning.{judged}
use lib.Dec.{eqb}
use Prim.Native.Nat.{ℕ}
use mathlib.Core.Path.{ap, ap₂, sym, ◌∙◌}
use mathlib.Core.Bool.{Bool}
use Rattle.language.specs.Tests as Tests
use Rattle.judge_actions.proofs.stores.set.Goals as goal

pub returns-in_err-v : goal.returns-in_err-v
returns-in_err-v c =
    λ q z d p t sh. rw (passed-on _ _ c.from_residual.ensures.1) (given-faulty _ _ _ (sym c.in_err-v.was ∙ c.left.ensures d p t sh))

pub returns-in_err-unless : goal.returns-in_err-unless
returns-in_err-unless c =
    λ q z d p t sh. rw (passed-on _ _ c.from_residual-in_err-unless.ensures.1) (one-fine _ _ _ (sym c.in_ok-v.was ∙ c.left.ensures d p t sh)
    (λ x m. or-refused _ _ _ (ap judged (sym c.in_err-unless.was) ∙ (c.unless.ensures ∙ ap₂ (λ (b : Bool) (u : W.Position). least (L.unless b u BadStore))
    (c.may_set.ensures ∙ ap₂ (λ (k : Kind) (l : ℕ). Tests.both (is_plain k) (eqb l 1)) (c.kind_at-kind.ensures.kind d p t _ _ _ sh) (ap (λ (v : Worth). v.length) m)) z))))

pub returns : goal.returns
returns c =
    λ q z d p t sh. one-fine _ _ _ (sym c.in_ok-v.was ∙ c.left.ensures d p t sh)
    (λ x m. or-passed _ _ _ (ap judged (sym c.in_ok-unless.was) ∙ (c.unless.ensures ∙ ap₂ (λ (b : Bool) (u : W.Position). least (L.unless b u BadStore))
    (c.may_set.ensures ∙ ap₂ (λ (k : Kind) (l : ℕ). Tests.both (is_plain k) (eqb l 1)) (c.kind_at-kind.ensures.kind d p t _ _ _ sh) (ap (λ (v : Worth). v.length) m)) z))
    (c.only.ensures.shown _ (c.with_one.ensures _ (ap (λ (v : Worth). v.work) m))))
