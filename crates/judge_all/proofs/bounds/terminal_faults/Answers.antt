use Rattle.language.specs.WordStage.{least}
use Rattle.language.specs.Rules.{same_length}
use Rattle.language.specs.Description.{FacilityPlaces, facility_place}
use Prim.Native.Nat.{ℕ}
use mathlib.Core.Path.{ap, sym, ◌∙◌}
use Rattle.judge_all.proofs.bounds.terminal_faults.Goals as goal

pub returns : goal.returns
returns c =
    λ d p name j e f. c.same_length.ensures d p _ j (c.of_facility.ensures ∙ sym (ap (λ (x : FacilityPlaces). x.equals) e)) f
    ∙ ap (λ (l : ℕ). least (same_length d p l (facility_place p c.args.n).equals j)) (c.word_length.ensures.0 name)
