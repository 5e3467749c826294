use Rattle.judge_all.proofs.StateLaws.{state-is}
use Rattle.judge_all.specs.Stated.{values_before, wanted_length}
use Rattle.image_sections.specs.Declarations.{value_meant}
use Rattle.language.specs.Description as D
use Rattle.language.specs.Description.{StatePlaces, state_at, state_place}
use Rattle.language.specs.Rules as R
use Rattle.language.specs.WordStage.{least}
use mathlib.Core.Bool.{cond, false, true}
use mathlib.Core.Option.{Option}
use Prim.Native.Nat.{ℕ}
use mathlib.Core.Path.{◌≡◌, refl, ap, sym, ◌∙◌}
use Rattle.judge_all.proofs.states.state.Goals as goal

pub returns : goal.returns
returns c =
    λ d p y z m e.
    let n : ℕ = c.args.n in
    let l : Option ℕ = wanted_length c.args.wanted in
    let v : value_meant c.args.s.value ≡ (state_at d c.args.n).value = ap (λ (x : D.State). x.value) m in
    c.with_value.ensures _ _ _
    (c.value_faults-wrong.ensures d p _ y (c.of_state.ensures ∙ sym (ap (λ (x : StatePlaces). x.value) z))
    ∙ ap (λ (o : Option ℕ). least (R.value_faults d p l (values_before d p n) (state_place p n).value o)) v)
    (c.own_faults-own.ensures d p l _ (state_at d n) _ (c.of_state-at.ensures ∙ sym (ap (λ (x : StatePlaces). x.at) z))
    (c.value_there.ensures d p ∙ ap (λ (o : Option ℕ). cond (R.missing d p l o) false true) v) e)
    (c.faults_of.ensures _ e)
    ∙ ap least (state-is d p l (values_before d p n) (state_place p n) (state_at d n) refl)
