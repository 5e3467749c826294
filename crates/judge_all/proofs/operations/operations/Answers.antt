use Rattle.judge_all.proofs.OperationLaws.{perform-all, perform-first, perform-next, start-operation, step-operation, stop-operation}
use Rattle.text_words.specs.Meaning.{judged}
use native.Mathlib.Omega.{arith}
use mathlib.Core.Path.{refl, ◌∙◌}
use Rattle.judge_all.proofs.operations.operations.Goals as goal

pub loop-n-init : goal.loop-n-init
loop-n-init c =
    (refl, λ d p s. (start-operation d p _, perform-first _ d p))

pub operation-v-requires : goal.operation-v-requires
operation-v-requires c =
    omega (arith, c.loop-n-test.true, c.requires.1)

pub remember-requires : goal.remember-requires
remember-requires c =
    omega (arith, c.loop-n.invariant.0, c.requires.0)

pub loop-n-preserved : goal.loop-n-preserved
loop-n-preserved c = (
  c.remember.ensures.0 ∙ c.loop-n.invariant.0,
  λ d p s.
      let i = c.loop-n.invariant.1 d p s in
      let v = c.operation-v.ensures d p _ s i.1 (s.body c.loop-n.n c.operation_at-x.result c.operation_at-x.ensures) in
      (step-operation d p _ c.loop-n.n (judged c.loop-n.all) (judged c.faults_of.result) c.loop-n-test.true c.earlier-all.ensures (c.faults_of.ensures _ v) i.0, perform-next i.1 v c.remember.ensures.1 c.remember.ensures.2),
)

pub returns : goal.returns
returns c =
    (c.loop-n.invariant.0, λ d p s. (stop-operation d p _ c.loop-n.n (judged c.loop-n.all) c.loop-n-test.false (c.loop-n.invariant.1 d p s).0, perform-all _ (omega arith) c.loop-n-test.false (c.loop-n.invariant.1 d p s).1))
