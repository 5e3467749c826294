-- What the records of declarations say of the description that stands in them.
use mathlib.Core.Bool.{true, false, cond}
use mathlib.Core.List.{List, [], ◌∷◌}
use mathlib.Core.Path.{◌≡◌, refl, sym, ap, ◌∙◌}
use Prim.Native.Nat.{ℕ}
use Rattle.language.specs.Decode.{action_of}
use Rattle.language.specs.Description as D
use Rattle.language.specs.Description.{Description, action_at, facility_at, is_computed, operation_at, state_at}
use Rattle.language.specs.Order.{function_root}
use Rattle.image_records.specs.Actions.{meant}
use Rattle.image_records.specs.declared.actions.Action.{Action}
use Rattle.image_sections.specs.Declarations.{FacilityRead, OperationRead, StateRead, facility_meant, kind_meant, run_meant, value_meant}
use Rattle.image_sections.specs.declared.facilities.FacilityRecord.{FacilityRecord}
use Rattle.image_sections.specs.declared.facilities.FacilityKind.{FacilityKind}
use Rattle.image_sections.specs.declared.facilities.FacilityKind.TheVariants as K
use Rattle.image_sections.specs.declared.operations.OperationRecord.{OperationRecord}
use Rattle.image_sections.specs.declared.states.StateRecord.{StateRecord}
use Rattle.image_order.specs.Holds.{Actions, Facilities, Operations, States}

module _ (d : Description) (s : List ℕ) (n : ℕ) where
  pub facility-is : {f : FacilityRecord} → Facilities d s → FacilityRead s n f → facility_at d n ≡ facility_meant (facility_at d n).name f
  facility-is h r = h.at n ∙ sym (r.meaning (facility_at d n).name)

  pub body_is : {o : OperationRecord} → Operations d s → OperationRead s n o → (operation_at d n).body ≡ run_meant o.body
  body_is h r = ap (λ (o : D.Operation). o.body) (h.at n ∙ sym (r.meaning (operation_at d n).name))

  pub value-is : {x : StateRecord} → States d s → StateRead s n x → (state_at d n).value ≡ value_meant x.value
  value-is h r = ap (λ (x : D.State). x.value) (h.at n ∙ sym (r.meaning (state_at d n).name))

  pub actions-are : {x : StateRecord} → States d s → StateRead s n x → (state_at d n).actions ≡ run_meant x.actions
  actions-are h r = ap (λ (x : D.State). x.actions) (h.at n ∙ sym (r.meaning (state_at d n).name))

-- Only a computed terminal has a tree.
root-of : (d : Description) (f : D.Facility) (k : FacilityKind) → function_root d f (kind_meant k) ≡ cond (is_computed (kind_meant k)) (f.expression ∷ []) []
root-of d f K.Register = refl
root-of d f K.Sequencing = refl
root-of d f K.Memory = refl
root-of d f K.Plain = refl
root-of d f K.Input = refl
root-of d f K.Computed = refl

module _ (d : Description) (s : List ℕ) (n : ℕ) {f : FacilityRecord} (h : Facilities d s) (r : FacilityRead s n f) where
  root : function_root d (facility_at d n) (facility_at d n).kind
      ≡ cond (is_computed (kind_meant f.kind)) (cond (is_computed (kind_meant f.kind)) f.place 0 ∷ []) []
  root =
      ap (λ (g : D.Facility). function_root d g g.kind) (facility-is d s n h r)
      ∙ root-of d (facility_meant (facility_at d n).name f) f.kind

  pub computed-root : is_computed (kind_meant f.kind) ≡ true → function_root d (facility_at d n) (facility_at d n).kind ≡ f.place ∷ []
  computed-root e = root ∙ rw e

  pub plain-root : is_computed (kind_meant f.kind) ≡ false → function_root d (facility_at d n) (facility_at d n).kind ≡ []
  plain-root e = root ∙ rw e

-- The action that record i is.
pub action-is : (d : Description) (s : List ℕ) (i : ℕ) {x y : Action} → Actions d s → meant x ≡ action_of s i → x ≡ y → action_at d i ≡ meant y
action-is d s i h p q = h.at i ∙ sym p ∙ ap meant q
