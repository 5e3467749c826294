use mathlib.Core.Path.{ap, ◌∙◌}
use Rattle.image_sections.specs.Declarations.{facility_meant, kind_meant}
use Rattle.image_records.specs.Placed.{placed}
use Rattle.run_begin.proofs.BeginLoop.{begun-input, begun-plain, begun_kept}
use Rattle.run_begin.specs.InBytes.{begins}
use Rattle.image_sections.specs.declared.facilities.FacilityKind.{FacilityKind}
use mathlib.Core.Logic.{inl, inr}
use Rattle.run_begin.proofs.start.begin_one.Goals as goal

pub returns-in-Register : goal.returns-in-Register
returns-in-Register c =
    λ name.
    begun_kept (facility_meant name c.args.f) c.args.f.place c.args.store.now c.args.stimulus.now c.args.at (elim c.in-Register.is [
      | inl e ↦ ap (λ (k : FacilityKind). begins (kind_meant k)) e
      | inr (inl e) ↦ ap (λ (k : FacilityKind). begins (kind_meant k)) e
      | inr (inr (inl e)) ↦ ap (λ (k : FacilityKind). begins (kind_meant k)) e
      | inr (inr (inr e)) ↦ ap (λ (k : FacilityKind). begins (kind_meant k)) e
    ])

pub returns-in-Plain : goal.returns-in-Plain
returns-in-Plain c =
    λ name.
    c.clear.ensures ∙ begun-plain (facility_meant name c.args.f) c.args.f.place c.args.store.now c.args.stimulus.now c.args.at _ (c.words_bytes.ensures.1 name) (ap kind_meant c.in-Plain.is)

pub returns-in-Input : goal.returns-in-Input
returns-in-Input c =
    λ name.
    c.put.ensures ∙ (ap (placed c.args.store.now c.args.f.place) c.part.ensures ∙ begun-input (facility_meant name c.args.f) c.args.f.place c.args.store.now c.args.stimulus.now c.args.at _ (c.words_bytes-in-Input.ensures.1 name) (ap kind_meant c.in-Input.is))
