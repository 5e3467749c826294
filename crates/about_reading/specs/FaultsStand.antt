-- Every fault of a description stands at one of the places given: what holds of them all holds of where it stands. Assumes nothing.
use Rattle.std.specs.Prelude.{Bool, cond, ◌||◌, eqb, leb, ltb, length}
use Rattle.std.proofs.Math.Bool.{true, false}
use mathlib.Core.List.{List, [], ◌∷◌}
use Rattle.std.proofs.Math.Option.{Option, none, some}
use Prim.Native.Nat.{ℕ, zero, suc, ◌+◌, ◌-◌}
use Rattle.language.specs.Ceilings.{largest_bound, largest_store, most_work}
use Rattle.language.specs.ActionRules as J
use Rattle.language.specs.ActionRules.{Shape, actions, arms, kind_at, list_judged, arms_judged, operation_below, simple_judged}
use Rattle.language.specs.Description as D
use Rattle.language.specs.Description.{Action, Description, Facility, FacilityPlaces, Places, Run, State, StatePlaces, action_at, action_place, constant_value, facility_place, is_computed, is_sequencing, node_at, operation_at, state_at, state_place, word_length}
use Rattle.language.specs.Expressions.{selects}
use Rattle.language.specs.Judging.{Judged, Worth, refuse}
use Rattle.language.specs.Layout.{facility_bytes}
use Rattle.language.specs.declared.refusals.Refusal.{Refusal}
use Rattle.language.specs.declared.refusals.Refusal.TheVariants.{BadLength, BadName, BadSequencing, BadStore, BadSubscript, CeilingPassed}
use Rattle.language.specs.Rules as L
use Rattle.language.specs.Storing.{is_plain, may_store}
use Rattle.language.specs.Tree.{Name}
use Rattle.language.specs.Words.{Fault, Position}
use Rattle.about_reading.specs.ExpressionsStand.{AllHere, EachHere, FacilityHere, expression-judges, left-judges, terminal-judges, terminals-judge}
use Rattle.about_reading.specs.Standing as S
use Rattle.about_reading.specs.Standing.{Judges, Stand, below-so}
use Rattle.language.specs.Tests.{both}

module _ (Here : Position → Type 0) (d : Description) (p : Places) (all : AllHere Here p) where
  abbrev Is : Judged → Type 0
  Is = Judges Here

  abbrev Stands : List Fault → Type 0
  Stands = Stand Here

  -- ---- Actions; `t` gives the work of operations.

  module _ (in_state : Bool) (t : ℕ → Judged) (works : (o : ℕ) → Is (t o)) where
    side-judges : (n : ℕ) → Is (J.side d p in_state t n)
    side-judges n = left-judges Here d p all _ (terminals-judge Here d p all (length d.facilities)) (length d.facilities) n

    right-judges : (n : ℕ) → Is (J.right d p in_state t n)
    right-judges n = expression-judges Here d p all _ (terminals-judge Here d p all (length d.facilities)) (length d.facilities) n

    stored-judges : (allowed : Bool) (at : Position) (v w : Worth) → Here at → Is (J.stored d p in_state t allowed at v w)
    stored-judges allowed at v w h =
        S.or-judges Here (S.append-stand Here (S.unless-stand Here (eqb v.length w.length) at BadLength h) (S.unless-stand Here allowed at BadStore h)) S.is-fine

    only-judges : (b : Bool) (at : Position) {j : Judged} → Here at → Is j → Is (J.only_in d p in_state t b at j)
    only-judges true at h k = k
    only-judges false at h k = S.refuse-judges Here h

    to-state : (at : Position) (s : ℕ) → Here at → Is (J.to_state d p in_state t at s)
    to-state at s h = S.cond-judges Here (ltb 0 (length (state_at d s).name)) S.is-fine (S.refuse-judges Here h)

    simple-judges : (at : Position) (a : Action) → Here at → Is (simple_judged d p in_state t at a)
    unfolding simple_judged
    simple-judges at (D.store k l r) h =
        only-judges (J.not_in_state d p in_state t) at h (S.both-judges Here (side-judges l) (right-judges r) (λ v w. stored-judges (may_store k (kind_at d l)) at v w h))
    simple-judges at (D.store_pair k l m r) h =
        only-judges (J.not_in_state d p in_state t) at h
        (S.both-judges Here (S.both-judges Here (side-judges l) (side-judges m) (λ v w. S.is-fine)) (right-judges r)
        (λ v w. stored-judges (both (may_store k (kind_at d l)) (may_store k (kind_at d m))) at v w h))
    simple-judges at (D.set l) h =
        S.given-judges Here (side-judges l) (λ v. S.or-judges Here (S.unless-stand Here (both (is_plain (kind_at d l)) (eqb v.length 1)) at BadStore h) S.is-fine)
    simple-judges at (D.perform o) h = S.given-judges Here (works o) (λ v. S.is-fine)
    simple-judges at (D.goto s) h = only-judges in_state at h (to-state at s h)
    simple-judges at (D.call s) h = only-judges in_state at h (to-state at s h)
    simple-judges at D.return h = only-judges in_state at h S.is-fine
    simple-judges at (D.when c x) h = S.refuse-judges Here h
    simple-judges at (D.choose c n x) h = S.refuse-judges Here h
    simple-judges at (D.arm x) h = S.refuse-judges Here h
    simple-judges at D.Action.broken h = S.refuse-judges Here h

    -- ---- Lists and arms.

    abbrev Answers : Type 0
    Answers = ℕ → Shape → Judged

    abbrev IsAll : Answers → Type 0
    IsAll f = (i : ℕ) (s : Shape) → Is (f i s)

    nothing : {r : Refusal} → Is (refuse D.nowhere r)
    nothing = S.refuse-judges Here all.none

    module _ (ev : ℕ → Answers) (parts : (k : ℕ) → IsAll (ev k)) (m i : ℕ) where
      conditional-judges : (c x : ℕ) (test : Worth → Worth → Bool) → Is (J.conditional d p in_state t (action_place p i) (J.right d p in_state t c) (ev x (i + 1) arms) test)
      conditional-judges c x test = S.both-judges Here (right-judges c) (parts x (i + 1) arms) (λ v w. S.cond-judges Here (test v w) S.is-fine (S.refuse-judges Here (all.actions i)))

      holding-judges : (x : ℕ) {j : Judged} → Is j → Is (J.holding d p in_state t ev m i x j)
      holding-judges x h = S.cond-judges Here (leb x m) (S.both-judges Here h (parts (m - x) (i + 1 + x) actions) (λ v w. S.is-fine)) nothing

      plainly-judges : Is (J.plainly d p in_state t ev m i)
      plainly-judges = S.both-judges Here (simple-judges (action_place p i) (action_at d i) (all.actions i)) (parts m (i + 1) actions) (λ v w. S.is-fine)

      list-judges : (a : Action) → Is (list_judged d p in_state t ev m i a)
      unfolding list_judged
      list-judges (D.store k l r) = plainly-judges
      list-judges (D.store_pair k l n r) = plainly-judges
      list-judges (D.set l) = plainly-judges
      list-judges (D.perform o) = plainly-judges
      list-judges (D.goto s) = plainly-judges
      list-judges (D.call s) = plainly-judges
      list-judges D.return = plainly-judges
      list-judges (D.when c x) = holding-judges x (conditional-judges c x (λ v w. both (eqb v.length 1) (eqb w.arms 1)))
      list-judges (D.choose c n x) = holding-judges x (conditional-judges c x (λ v w. both (selects v.length n) (eqb w.arms n)))
      list-judges (D.arm x) = plainly-judges
      list-judges D.Action.broken = plainly-judges

      arm-judges : (x : ℕ) → Is (J.arm_after d p in_state t ev m i x)
      arm-judges x = S.cond-judges Here (both (leb 1 x) (leb x m)) (S.both-judges Here (parts x (i + 1) actions) (parts (m - x) (i + 1 + x) arms) (λ v w. S.is-fine)) nothing

      arms-judge : (a : Action) → Is (arms_judged d p in_state t ev m i a)
      unfolding arms_judged
      arms-judge (D.store k l r) = nothing
      arms-judge (D.store_pair k l n r) = nothing
      arms-judge (D.set l) = nothing
      arms-judge (D.perform o) = nothing
      arms-judge (D.goto s) = nothing
      arms-judge (D.call s) = nothing
      arms-judge D.return = nothing
      arms-judge (D.when c x) = nothing
      arms-judge (D.choose c n x) = nothing
      arms-judge (D.arm x) = arm-judges x
      arms-judge D.Action.broken = nothing

    run_step_lem : (ev : ℕ → Answers) → ((k : ℕ) → IsAll (ev k)) → (k : ℕ) → IsAll (J.run_step d p in_state t ev k)
    run_step_lem ev parts k i actions = S.cond-judges Here (eqb k 0) S.is-fine (list-judges ev parts (k - 1) i (action_at d i))
    run_step_lem ev parts k i arms = S.cond-judges Here (eqb k 0) S.is-fine (arms-judge ev parts (k - 1) i (action_at d i))

    runs-judge : (k a : ℕ) → IsAll (J.run_below d p in_state t k a)
    unfolding J.run_below
    runs-judge k a = below-so IsAll _ (λ i s. nothing) (J.run_step d p in_state t) run_step_lem k a

    run-judges : (r : Run) → Is (J.run_judged d p in_state t r)
    unfolding J.run_judged
    run-judges r = run_step_lem _ (runs-judge r.count) r.count r.first actions

  -- ---- Operations.

  operation-step : (ev : ℕ → Judged) → ((o : ℕ) → Is (ev o)) → (o : ℕ) → Is (J.operation_step d p ev o)
  operation-step ev h o =
      let body = (operation_at d o).body in
      S.cond-judges Here (eqb body.count 0) (S.refuse-judges Here all.none) (run-judges false ev h body)

  operations-below : (k o : ℕ) → Is (operation_below d p k o)
  unfolding operation_below
  operations-below k o = below-so Is _ (S.refuse-judges Here all.none) (J.operation_step d p) operation-step k o

  operation-judges : (o : ℕ) → Is (J.operation_judged d p o)
  unfolding J.operation_judged
  operation-judges o = operation-step (operation_below d p o) (operations-below o) o

  operations-stand : (k n : ℕ) → Stands (L.operations_faults d p k n)
  unfolding L.operations_faults
  operations-stand zero n = S.no-fault
  operations-stand (suc k) n = S.append-stand Here (S.faults-stand Here (operation-judges n)) (operations-stand k (suc n))

  -- ---- Facilities.

  or_else : {xs ys : List Fault} → Stands xs → Stands ys → Stands (L.first_faults d p xs ys)
  or_else S.no-fault k = k
  or_else (S.a-fault x h) k = S.a-fault x h

  bound-stands : (n : ℕ) (at : Position) → Here at → Stands (L.bound_fault d p n at)
  bound-stands n at h = S.unless-stand Here (leb n largest_bound) at BadSubscript h

  bounds-stand : (f : Facility) (at : FacilityPlaces) → FacilityHere Here at → Stands (L.bounds_faults d p f at)
  unfolding L.bounds_faults
  bounds-stand f at h =
      S.append-stand Here (bound-stands f.words.first at.words_first h.words_first)
      (S.append-stand Here (bound-stands f.words.last at.words_last h.words_last)
      (S.append-stand Here (bound-stands f.bits.first at.bits_first h.bits_first) (bound-stands f.bits.last at.bits_last h.bits_last)))

  length-stands : (l : ℕ) (at : Position) {j : Judged} → Here at → Is j → Stands (L.same_length d p l at j)
  length-stands l at h (S.is-fine {w = w}) = S.unless-stand Here (eqb l w.length) at BadLength h
  length-stands l at h (S.is-faulty x y) = S.a-fault x y

  facility-stands : (n : ℕ) (another : Bool) (before : ℕ) (f : Facility) (at : FacilityPlaces) → FacilityHere Here at → Stands (L.facility_faults d p n another before f at)
  unfolding L.facility_faults
  facility-stands n another before f at h =
      S.append-stand Here (S.unless-stand Here (cond (is_sequencing f.kind) (L.sequencing_right d p another f) true) at.name BadSequencing h.name)
      (S.append-stand Here (S.unless-stand Here (leb (before + facility_bytes f) largest_store) at.name CeilingPassed h.name)
      (S.cond-stand Here (is_computed f.kind) (length-stands (word_length f) at.equals h.equals (terminal-judges Here d p all n)) S.no-fault))

  facilities-stand : (n : ℕ) (another : Bool) (before : ℕ) (fs : List Facility) → Stands (L.facilities_faults d p n another before fs)
  unfolding L.facilities_faults
  facilities-stand n another before [] = S.no-fault
  facilities-stand n another before (f ∷ fs) =
      S.append-stand Here (or_else (bounds-stand f (facility_place p n) (all.facilities n)) (facility-stands n another before f (facility_place p n) (all.facilities n)))
      (facilities-stand (suc n) (another || is_sequencing f.kind) (before + facility_bytes f) fs)

  -- ---- States.

  values-stand : (l : Option ℕ) (before : List ℕ) (at : Position) (v : Option ℕ) → Here at → Stands (L.value_faults d p l before at v)
  values-stand none before at none h = S.no-fault
  values-stand none before at (some n) h = S.a-fault h S.no-fault
  values-stand (some l) before at none h = S.no-fault
  values-stand (some l) before at (some n) h =
      let v = constant_value (node_at d n) in
      S.unless-stand Here (both (eqb v.length l) (cond (L.repeated d p v.number before) false true)) at BadSequencing h

  own-stands : (l : Option ℕ) (at : Position) (s : State) {j : Judged} → Here at → Is j → Stands (L.own_faults d p l at s j)
  own-stands l at s h (S.is-fine {w = w}) = S.append-stand Here (S.unless-stand Here (cond (L.missing d p l s.value) false true) at BadSequencing h) (S.unless-stand Here (leb w.work most_work) at CeilingPassed h)
  own-stands l at s h (S.is-faulty x y) = S.a-fault x y

  state-stands : (l : Option ℕ) (before : List ℕ) (at : StatePlaces) (s : State) → Here at.at × Here at.value → Stands (L.state_faults d p l before at s)
  unfolding L.state_faults
  state-stands l before at s h =
      let v = values-stand l before at.value s.value h.1 in
      let run = run-judges true _ (operations-below (length d.operations)) s.actions in
      S.cond-stand Here (eqb (length (L.value_faults d p l before at.value s.value)) 0)
      (own-stands l at.at s h.0 run)
      (S.append-stand Here v (S.faults-stand Here run))

  states-stand : (l : Option ℕ) (before : List ℕ) (n : ℕ) (ss : List State) → Stands (L.states_faults d p l before n ss)
  unfolding L.states_faults
  states-stand l before n [] = S.no-fault
  states-stand l before n (s ∷ ss) =
      S.append-stand Here (state-stands l before (state_place p n) s (all.states n)) (states-stand l (L.borne d p before s.value) (suc n) ss)

  -- ---- Names.

  names_stand : (before ns : List Name) (ps : List Position) → EachHere Here ps → Stands (L.name_faults before ns ps)
  unfolding L.name_faults
  names_stand before [] ps h = S.no-fault
  names_stand before (n ∷ ns) [] h = S.append-stand Here (S.unless-stand Here (cond (L.twice n before) false true) D.nowhere BadName all.none) (names_stand (n ∷ before) ns [] tt)
  names_stand before (n ∷ ns) (x ∷ ps) h = S.append-stand Here (S.unless-stand Here (cond (L.twice n before) false true) x BadName h.0) (names_stand (n ∷ before) ns ps h.1)

  -- ---- All faults of a description.

  pub all-stand : Stands (L.faults d p)
  unfolding L.faults
  all-stand =
      S.append-stand Here (names_stand [] (L.names_of d) (L.name_places p) all.names)
      (S.append-stand Here (facilities-stand 0 false 0 d.facilities)
      (S.append-stand Here (operations-stand (length d.operations) 0) (states-stand (L.sequencing_length d p) [] 0 d.states)))
