use mathlib.Core.Path.{sym, ap, ◌∙◌}
use lib.Dec.{eqb}
use Rattle.language.specs.Description as D
use Rattle.language.specs.Description.{constant_value}
use Rattle.language.specs.Step as S
use Rattle.language.specs.Value.{Value}
use Rattle.value_limbs.specs.Limbs.{number}
use Rattle.image_records.specs.Nodes.{held}
use Rattle.run_references.proofs.EvalLaws.{held_whole}
use Rattle.run_next.proofs.bearer.bears.Goals as goal

pub returns-in-Some : goal.returns-in-Some
returns-in-Some c =
    λ d T s h e.
    let v = ap (λ (z : D.Node). held (constant_value z)) (sym (h.nodes c.in-Some.n)) ∙ held_whole _ (h.fit c.in-Some.n) in
    rw (h.constants s c.in-Some.n (rw c.in-Some.is at e)) (c.same.ensures ∙ ap (eqb (number c.args.x.limbs)) (ap (λ (z : Value). z.number) (c.constant_at.ensures ∙ v)))

pub returns-in-None : goal.returns-in-None
unfolding S.state_number
returns-in-None c =
    λ d T s h e. rw (rw c.in-None.is at e)
