use Rattle.judge_terms.proofs.RecordLaws.{last-is}
use Rattle.language.specs.declared.refusals.Refusal.TheVariants.{BadSubscript}
use Rattle.language.specs.Description.{Description, Facility, NodePlaces, Places}
use Rattle.language.specs.WordStage.{least}
use Rattle.language.specs.Words as W
use Rattle.language.specs.ReferenceRules.{direction_faults}
use Rattle.language.specs.Judging as L
use Rattle.store_geometry.specs.declared.bounds.Bounds.{Bounds}
use Rattle.store_geometry.specs.declared.subscripts.Subscripts.{Subscripts}
use Rattle.store_geometry.specs.declared.subscripts.Subscripts.TheVariants as V
use Rattle.store_geometry.specs.Subscripts.{subscripts_meant}
use mathlib.Core.Bool.{Bool}
use mathlib.Core.Logic.{inl, inr}
use mathlib.Core.Option.{none}
use mathlib.Core.Path.{◌≡◌, ap₂, refl, ◌∙◌}
use Prim.Native.Nat.{ℕ}
use Rattle.judge_terms.proofs.references.direction_faults.Goals as goal

-- What has no part has no direction.
no-part : (d : Description) (p : Places) (t : ℕ → L.Judged) (f : Facility) (q : NodePlaces) (s : Subscripts) → ((x : Bounds) → s ≡ V.Part x → ⊥)
    → ((n : ℕ) (x : Bounds) → s ≡ V.WordPart n x → ⊥) → none ≡ least (direction_faults d p t f (subscripts_meant s) q)
unfolding direction_faults least
no-part d p t f q V.Whole a b = refl
no-part d p t f q (V.One e) a b = refl
no-part d p t f q (V.Part x) a b = absurd (a x refl)
no-part d p t f q (V.Two e g) a b = refl
no-part d p t f q (V.WordPart n x) a b = absurd (b n x refl)

pub returns-in_default : goal.returns-in_default
returns-in_default c =
    λ d p t exprs name s. no-part d p t _ _ c.args.s c.in_default.not-Part c.in_default.not-WordPart

pub returns-in-Part : goal.returns-in-Part
unfolding direction_faults
returns-in-Part c =
    λ d p t exprs name s.
    let told = c.unless.ensures ∙ ap₂ (λ (b : Bool) (q : W.Position). least (L.unless b q BadSubscript)) c.same_direction-right.ensures (last-is s _ c.of_node-last.ensures) in
    elim c.in-Part.is [ inl e ↦ rw e told | inr e ↦ rw e.1 told ]
