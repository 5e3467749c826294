use Rattle.judge_verdicts.specs.declared.Worth.{Worth}
use borrow.Author.Tests.{eq-eqb, ne_eqb}
use lib.Dec.{eqb}
use mathlib.Core.Path.{◌≡◌, sym, ap, ◌∙◌}
use mathlib.Core.Bool.{true, false}
use Rattle.judge_actions.proofs.conditionals.right_arms.Goals as goal

pub returns-then-v-eq1 : goal.returns-then-v-eq1
returns-then-v-eq1 c =
    λ x y m n. let a : eqb x.length 1 ≡ true = eq-eqb _ 1 (ap (λ (v : Worth). v.length) (sym m) ∙ c.if-v-eq1.true) in
    rw (c.in-One.is, a) (c.are.ensures y.arms (ap (λ (v : Worth). v.arms) n))

pub returns-then-selects : goal.returns-then-selects
returns-then-selects c =
    λ x y m n. rw (c.in-Several.is, ← ap (λ (v : Worth). v.length) m, sym c.selects.ensures ∙ c.if-selects.true)
    (c.are-then-selects.ensures y.arms (ap (λ (v : Worth). v.arms) n))

pub returns-else-v-eq1 : goal.returns-else-v-eq1
returns-else-v-eq1 c =
    λ x y m n. let a : eqb x.length 1 ≡ false = ne_eqb _ 1 (λ z. c.if-v-eq1.false (ap (λ (v : Worth). v.length) m ∙ z)) in
    ne_eqb _ 1 c.if-v-eq1.false ∙ rw (c.in-One.is, a)

pub returns-else-selects : goal.returns-else-selects
returns-else-selects c =
    λ x y m n. c.if-selects.false ∙ rw (c.in-Several.is, ← ap (λ (v : Worth). v.length) m, sym c.selects.ensures ∙ c.if-selects.false)
