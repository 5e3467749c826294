use Rattle.language.specs.Rules.{bounds_faults}
use Rattle.language.specs.Description.{FacilityPlaces}
use mathlib.Core.Path.{ap, sym, ◌∙◌}
use Rattle.judge_all.proofs.bounds.bounds_faults.Goals as goal

pub returns : goal.returns
unfolding bounds_faults
returns c =
    λ d p name e. c.also-3.ensures _ _
    (c.bound_fault-one.ensures _ (c.of_facility.ensures ∙ sym (ap (λ (x : FacilityPlaces). x.words_first) e)))
    (c.also-2.ensures _ _
    (c.bound_fault-two.ensures _ (c.of_facility-2.ensures ∙ sym (ap (λ (x : FacilityPlaces). x.words_last) e)))
    (c.also.ensures _ _
    (c.bound_fault-three.ensures _ (c.of_facility-3.ensures ∙ sym (ap (λ (x : FacilityPlaces). x.bits_first) e)))
    (c.bound_fault-four.ensures _ (c.of_facility-4.ensures ∙ sym (ap (λ (x : FacilityPlaces). x.bits_last) e)))))
