use mathlib.Core.Path.{sym, ap, ◌∙◌}
use Rattle.language.specs.Description as D
use Rattle.run_references.specs.Places.{found_meant}
use Rattle.run_soundness.proofs.register.agrees.Goals as goal

pub returns-in-Some : goal.returns-in-Some
returns-in-Some c =
    λ d h room.
    let q = sym (c.sequencing.ensures d _ h.described) ∙ ap found_meant c.in-Some.is in
    let s = h.valued.states c.args.state in
    let e = ap (λ (y : D.State). y.value) (s.is ∙ sym (c.state_at-s.ensures.meaning s.name)) in
    rw q (c.has_value.ensures d _ c.args.state h q e room)

pub returns-in-None : goal.returns-in-None
returns-in-None c =
    λ d h room. rw (sym (c.sequencing.ensures d _ h.described) ∙ ap found_meant c.in-None.is)
