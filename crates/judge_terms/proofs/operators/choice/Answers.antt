use borrow.Author.Tests.{eq-eqb, ne_eqb}
use Rattle.judge_verdicts.specs.declared.Worth.{Worth}
use Rattle.judge_verdicts.proofs.VerdictLaws.{both-fine, pair-faulty, pair-known, passed-on, refuse-same, sized_same}
use Rattle.judge_verdicts.proofs.CappedLaws.{capped-eqb}
use Rattle.language.specs.Expressions.{selects}
use lib.Dec.{eqb}
use Prim.Native.Nat.{ℕ}
use mathlib.Core.Bool.{true, false}
use mathlib.Core.Path.{◌≡◌, ap, sym, ◌∙◌}
use Rattle.language.specs.declared.refusals.Refusal.TheVariants.{BadLength}
use borrow.Author.Rules.{rules}
use Rattle.judge_terms.proofs.operators.choice.Goals as goal
use Rattle.judge_terms.proofs.operators.choice.Goals.{then-not-selects-via-then-not-selects, then-not-selects-via-else-not-selects+then-w-count}

pub returns-then-not-selects : goal.returns-then-not-selects
returns-then-not-selects c =
    λ d p t known q j k z e f. elim c.then-not-selects.branch [
      | then-not-selects-via-then-not-selects g ↦ both-fine j k _ _ _ (pair-known j k c.both.ensures c.in_ok-v.was e f)
          (λ x y m n.
          let a : selects x.length c.args.count ≡ false = ap (λ (l : ℕ). selects l c.args.count) (ap (λ (v : Worth). v.length) (sym m)) ∙ sym c.selects.ensures ∙ g.if-not-selects.true in
          rw a (c.refused.ensures ∙ refuse-same BadLength z))
      | then-not-selects-via-else-not-selects+then-w-count g ↦ both-fine j k _ _ _ (pair-known j k c.both.ensures c.in_ok-v.was e f)
          (λ x y m n.
          let a : selects x.length c.args.count ≡ true = ap (λ (l : ℕ). selects l c.args.count) (ap (λ (v : Worth). v.length) (sym m)) ∙ sym c.selects.ensures ∙ g.if-not-selects.false in
          let b : eqb y.arms c.args.count ≡ false = sym (capped-eqb y.arms c.args.count (search rules)) ∙ ne_eqb _ _ (λ u. g.if-w-count.true (ap (λ (v : Worth). v.arms) n ∙ u)) in
          rw (a, b) (c.refused.ensures ∙ refuse-same BadLength z))
    ]

pub returns : goal.returns
returns c =
    λ d p t known q j k z e f. both-fine j k _ _ _ (pair-known j k c.both.ensures c.in_ok-v.was e f)
    (λ x y m n.
    let a : selects x.length c.args.count ≡ true = ap (λ (l : ℕ). selects l c.args.count) (ap (λ (v : Worth). v.length) (sym m)) ∙ sym c.selects.ensures ∙ c.if-not-selects.false in
    let b : eqb y.arms c.args.count ≡ true = sym (capped-eqb y.arms c.args.count (search rules)) ∙ eq-eqb _ _ (ap (λ (v : Worth). v.arms) (sym n) ∙ c.if-w-count.false) in
    rw (a, b) (c.sized.ensures _ (c.with_two.ensures _ _ (ap (λ (v : Worth). v.work) m) (ap (λ (v : Worth). v.work) n)) ∙ sized_same _ z (ap (λ (v : Worth). v.length) n)))

pub returns-in_err-v : goal.returns-in_err-v
returns-in_err-v c =
    λ d p t known q j k z e f. rw (passed-on _ _ c.from_residual.ensures.1) (pair-faulty j k _ _ (pair-known j k c.both.ensures c.in_err-v.was e f))
