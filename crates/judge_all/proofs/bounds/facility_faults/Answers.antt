use lib.Dec.{leb}
use Rattle.language.specs.declared.refusals.Refusal.TheVariants.{BadSequencing, CeilingPassed}
use Rattle.language.specs.WordStage.{least}
use Rattle.language.specs.Words as W
use Rattle.language.specs.Ceilings.{largest_store}
use Rattle.language.specs.Judging as L
use Rattle.language.specs.Description.{FacilityPlaces}
use mathlib.Core.Path.{ap, ap₂, sym, ◌∙◌}
use mathlib.Core.Bool.{Bool}
use Rattle.judge_all.proofs.bounds.facility_faults.Goals as goal

pub returns : goal.returns
unfolding largest_store
returns c =
    λ d p name x e f. c.also-2.ensures _ _
    (c.unless-one.ensures ∙ ap₂ (λ (b : Bool) (q : W.Position). least (L.unless b q BadSequencing)) (c.sequencing_right.ensures d p name) (c.of_facility-at.ensures ∙ sym (ap (λ (y : FacilityPlaces). y.name) e)))
    (c.also.ensures _ _ (c.unless-two.ensures ∙ ap (λ (q : W.Position). least (L.unless (leb c.args.after 16384) q CeilingPassed)) (c.of_facility-at.ensures ∙ sym (ap (λ (y : FacilityPlaces). y.name) e))) f)
