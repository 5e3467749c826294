use mathlib.Core.Path.{sym, ap, ap₂, ◌∙◌}
use lib.Dec.{eqb}
use Rattle.language.specs.Description as D
use Rattle.language.specs.Description.{constant_value}
use Rattle.language.specs.Step as S
use Rattle.language.specs.Value.{Value}
use Rattle.image_records.specs.Nodes.{held}
use Rattle.run_references.proofs.EvalLaws.{held_whole}
use Rattle.run_references.proofs.PlaceLaws.{name_of}
use Rattle.run_soundness.proofs.RegisterLaws.{few_bits, register-word}
use Rattle.run_soundness.proofs.register.has_value.Goals as goal

pub returns-in-Some : goal.returns-in-Some
returns-in-Some c =
    λ d T s h q e room.
    let v = ap (λ (z : D.Node). held (constant_value z)) (sym (h.valued.nodes c.in-Some.k)) ∙ held_whole _ (h.valued.fit c.in-Some.k) in
    let w = register-word h c.args.n c.facility_at-f.result c.facility_at-f.ensures q c.args.store.now (λ i. (c.shared_slice_known-3-1.given i).fits) room (c.first_word-x.ensures (name_of h.described c.args.n c.facility_at-f.result c.facility_at-f.ensures) (few_bits h c.args.n c.facility_at-f.result c.facility_at-f.ensures q)) in
    rw (h.valued.constants s c.in-Some.k (rw c.in-Some.is at e)) (c.same.ensures ∙ ap₂ eqb w (ap (λ (z : Value). z.number) (c.constant_at.ensures ∙ v)))

pub returns-in-None : goal.returns-in-None
unfolding S.state_number
returns-in-None c =
    λ d T s h q e room. rw (rw c.in-None.is at e)
