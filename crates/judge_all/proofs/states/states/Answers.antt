use Rattle.judge_all.proofs.StateLaws.{start-state, state_here, step-state, stop-state, valued-of}
use Rattle.judge_all.specs.Stated.{state_judged}
use Rattle.language.specs.Description.{State}
use Rattle.language.specs.Rules.{sequencing_length}
use Rattle.judge_verdicts.specs.Meaning.{seen}
use Rattle.text_words.specs.Meaning.{judged}
use mathlib.Core.Option.{Option}
use Prim.Native.Nat.{ℕ}
use mathlib.Core.Path.{ap, ◌∙◌}
use Rattle.judge_all.proofs.states.states.Goals as goal

pub loop-n-init : goal.loop-n-init
loop-n-init c =
    λ d p s r. start-state d p (sequencing_length d p)

pub actions-v-requires : goal.actions-v-requires
actions-v-requires c =
    c.requires

pub loop-n-preserved : goal.loop-n-preserved
loop-n-preserved c =
    λ d p s r. step-state d p (sequencing_length d p) _ c.loop-n.n s.count (judged c.loop-n.all) (c.loop-n.invariant d p s r) c.loop-n-test.true c.earlier-all.ensures
    (let m = s.state c.loop-n.n c.state_at-s.result c.state_at-s.ensures in
    c.state-one.ensures d p (valued-of s) (s.spot _) m (c.actions-v.ensures d p _ s.acting r s.operations ∙ ap (λ (x : State). seen (state_judged d p x.actions)) m)
    ∙ ap (λ (l : Option ℕ). state_here d p l c.loop-n.n) (c.sequencing_length-wanted.ensures _ _ d p s.acting.declared))

pub returns : goal.returns
returns c =
    λ d p s r. stop-state d p (sequencing_length d p) _ c.loop-n.n s.count (judged c.loop-n.all) (c.loop-n.invariant d p s r) c.loop-n-test.false
