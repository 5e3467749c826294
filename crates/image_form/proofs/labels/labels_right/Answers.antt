use mathlib.Core.Path.{sym, ap, ◌∙◌}
use Prim.Native.Nat.{◌*◌}
use native.Mathlib.Omega.{arith}
use borrow.Author.Tests.{not-false, not-true}
use mathlib.Core.List.{List}
use Prim.Native.Nat.{ℕ}
use Rattle.language.specs.Canonical.{label_right}
use Rattle.image_sections.specs.Declarations.{value_meant}
use Rattle.image_form.proofs.LabelLaws.{labels-end, labels_next, labels-not, labels-start}
use Rattle.language.specs.Encode.{state_size}
use borrow.Author.Rules.{rules}
use Rattle.image_form.proofs.labels.labels_right.Goals as goal

pub loop-n-init : goal.loop-n-init
loop-n-init c =
    (search rules, labels-start c.args.states.now c.args.names.now)

pub returns-then-not-label_right : goal.returns-then-not-label_right
returns-then-not-label_right c =
    sym (labels-not c.args.states.now c.args.names.now c.loop-n.n c.loop-n.from c.loop-n-test.true c.state_at-s.ensures (ap (λ (l : List ℕ). label_right l (value_meant c.state_at-s.result.value)) (sym c.part.ensures) ∙ sym c.label_right.ensures ∙ not-true _ c.if-not-label_right.true-raw)) ∙ c.loop-n.invariant.1

pub loop-n-preserved : goal.loop-n-preserved
loop-n-preserved c =
    (search rules, sym (labels_next c.args.states.now c.args.names.now c.loop-n.n c.loop-n.from c.loop-n-test.true c.state_at-s.ensures (ap (λ (l : List ℕ). label_right l (value_meant c.state_at-s.result.value)) (sym c.part.ensures) ∙ sym c.label_right.ensures ∙ not-false _ c.if-not-label_right.false-raw)) ∙ c.loop-n.invariant.1)

pub returns : goal.returns
returns c =
    sym (labels-end c.args.states.now c.args.names.now c.loop-n.n (state_size * c.loop-n.n) _ (omega (arith, c.loop-n-test.false))) ∙ c.loop-n.invariant.1
