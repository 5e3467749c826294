-- Actions, and then whole descriptions, are judged alike whatever the places: where there is no fault with some places, there is none with others. Assumes nothing.
use Rattle.std.specs.Prelude.{Bool, cond, ◌||◌, ◌≡◌, leb, ltb, length}
use Rattle.std.proofs.Math.Bool.{true, false}
use mathlib.Core.List.{List, [], ◌∷◌}
use Rattle.std.proofs.Math.Option.{Option, none, some}
use Rattle.std.proofs.Math.Path.{ap, refl}
use Prim.Native.Nat.{ℕ, zero, suc, ◌+◌, ◌-◌}
use Rattle.std.proofs.Math.Dec.{eqb}
use Rattle.language.specs.Ceilings.{largest_bound, largest_store, most_work}
use Rattle.language.specs.ActionRules as J
use Rattle.language.specs.ActionRules.{Shape, actions, arms, kind_at, list_judged, arms_judged, operation_below, simple_judged}
use Rattle.language.specs.Description as D
use Rattle.language.specs.Description.{Action, Description, Facility, FacilityPlaces, Places, Run, State, StatePlaces, action_at, action_place, constant_value, facility_place, is_computed, is_sequencing, node_at, operation_at, state_at, state_place, word_length}
use Rattle.language.specs.Expressions.{selects}
use Rattle.language.specs.Judging.{Judged, Worth}
use Rattle.language.specs.Layout.{facility_bytes}
use Rattle.language.specs.declared.refusals.Refusal.TheVariants.{BadLength, BadName, BadSequencing, BadStore, BadSubscript, CeilingPassed}
use Rattle.language.specs.Rules as L
use Rattle.language.specs.Storing.{is_plain, may_store}
use Rattle.language.specs.Tree.{Name}
use Rattle.language.specs.Words.{Fault, Position}
use Rattle.about_rules.specs.Alike.{Alike, Together, append-together, below-related, both-alike, both-faulty, both-fine, cond-alike, cond-together, faults-together, given-alike, no-fault, none-as-well, none-together, or-alike, some-fault, unless-together}
use Rattle.about_rules.specs.ExpressionsAlike.{expression-alike, left-alike, terminal-alike, terminals-alike}
use Rattle.language.specs.Tests.{both}

module _ (d : Description) (p q : Places) where
  -- ---- Actions; `t` and `u` give the work of operations.

  module _ (in_state : Bool) (t u : ℕ → Judged) (works : (o : ℕ) → Alike (t o) (u o)) where
    side-alike : (n : ℕ) → Alike (J.side d p in_state t n) (J.side d q in_state u n)
    side-alike n = left-alike d p q _ _ (terminals-alike d p q (length d.facilities)) (length d.facilities) n

    right-alike : (n : ℕ) → Alike (J.right d p in_state t n) (J.right d q in_state u n)
    right-alike n = expression-alike d p q _ _ (terminals-alike d p q (length d.facilities)) (length d.facilities) n

    stored-alike : (allowed : Bool) (at to : Position) (v w : Worth) → Alike (J.stored d p in_state t allowed at v w) (J.stored d q in_state u allowed to v w)
    stored-alike allowed at to v w =
        or-alike (append-together (unless-together (eqb v.length w.length) at to BadLength) (unless-together allowed at to BadStore)) both-fine

    only-alike : (b : Bool) (at to : Position) {i j : Judged} → Alike i j → Alike (J.only_in d p in_state t b at i) (J.only_in d q in_state u b to j)
    only-alike true at to h = h
    only-alike false at to h = both-faulty

    to-state : (at to : Position) (s : ℕ) → Alike (J.to_state d p in_state t at s) (J.to_state d q in_state u to s)
    to-state at to s = cond-alike (ltb 0 (length (state_at d s).name)) both-fine both-faulty

    simple-alike : (at to : Position) (a : Action) → Alike (simple_judged d p in_state t at a) (simple_judged d q in_state u to a)
    unfolding simple_judged
    simple-alike at to (D.store k l r) =
        only-alike (J.not_in_state d p in_state t) at to (both-alike (side-alike l) (right-alike r) (stored-alike (may_store k (kind_at d l)) at to))
    simple-alike at to (D.store_pair k l m r) =
        only-alike (J.not_in_state d p in_state t) at to
        (both-alike (both-alike (side-alike l) (side-alike m) (λ v w. both-fine)) (right-alike r)
        (stored-alike (both (may_store k (kind_at d l)) (may_store k (kind_at d m))) at to))
    simple-alike at to (D.set l) =
        given-alike (side-alike l) (λ v. or-alike (unless-together (both (is_plain (kind_at d l)) (eqb v.length 1)) at to BadStore) both-fine)
    simple-alike at to (D.perform o) = given-alike (works o) (λ v. both-fine)
    simple-alike at to (D.goto s) = only-alike in_state at to (to-state at to s)
    simple-alike at to (D.call s) = only-alike in_state at to (to-state at to s)
    simple-alike at to D.return = only-alike in_state at to both-fine
    simple-alike at to (D.when c x) = both-faulty
    simple-alike at to (D.choose c n x) = both-faulty
    simple-alike at to (D.arm x) = both-faulty
    simple-alike at to D.Action.broken = both-faulty

    -- ---- Lists and arms.

    abbrev Answers : Type 0
    Answers = ℕ → Shape → Judged

    abbrev AlikeAll : Answers → Answers → Type 0
    AlikeAll f g = (i : ℕ) (s : Shape) → Alike (f i s) (g i s)

    module _ (ev on : ℕ → Answers) (parts : (k : ℕ) → AlikeAll (ev k) (on k)) (m i : ℕ) where
      conditional-alike : (c x : ℕ) (test : Worth → Worth → Bool)
          → Alike (J.conditional d p in_state t (action_place p i) (J.right d p in_state t c) (ev x (i + 1) arms) test) (J.conditional d q in_state u (action_place q i) (J.right d q in_state u c) (on x (i + 1) arms) test)
      conditional-alike c x test = both-alike (right-alike c) (parts x (i + 1) arms) (λ v w. cond-alike (test v w) both-fine both-faulty)

      holding-alike : (x : ℕ) {j k : Judged} → Alike j k → Alike (J.holding d p in_state t ev m i x j) (J.holding d q in_state u on m i x k)
      holding-alike x h = cond-alike (leb x m) (both-alike h (parts (m - x) (i + 1 + x) actions) (λ v w. both-fine)) both-faulty

      plainly-alike : Alike (J.plainly d p in_state t ev m i) (J.plainly d q in_state u on m i)
      plainly-alike = both-alike (simple-alike (action_place p i) (action_place q i) (action_at d i)) (parts m (i + 1) actions) (λ v w. both-fine)

      list-alike : (a : Action) → Alike (list_judged d p in_state t ev m i a) (list_judged d q in_state u on m i a)
      unfolding list_judged
      list-alike (D.store k l r) = plainly-alike
      list-alike (D.store_pair k l n r) = plainly-alike
      list-alike (D.set l) = plainly-alike
      list-alike (D.perform o) = plainly-alike
      list-alike (D.goto s) = plainly-alike
      list-alike (D.call s) = plainly-alike
      list-alike D.return = plainly-alike
      list-alike (D.when c x) = holding-alike x (conditional-alike c x (λ v w. both (eqb v.length 1) (eqb w.arms 1)))
      list-alike (D.choose c n x) = holding-alike x (conditional-alike c x (λ v w. both (selects v.length n) (eqb w.arms n)))
      list-alike (D.arm x) = plainly-alike
      list-alike D.Action.broken = plainly-alike

      arm-alike : (x : ℕ) → Alike (J.arm_after d p in_state t ev m i x) (J.arm_after d q in_state u on m i x)
      arm-alike x =
          cond-alike (both (leb 1 x) (leb x m)) (both-alike (parts x (i + 1) actions) (parts (m - x) (i + 1 + x) arms) (λ v w. both-fine)) both-faulty

      arms-alike : (a : Action) → Alike (arms_judged d p in_state t ev m i a) (arms_judged d q in_state u on m i a)
      unfolding arms_judged
      arms-alike (D.store k l r) = both-faulty
      arms-alike (D.store_pair k l n r) = both-faulty
      arms-alike (D.set l) = both-faulty
      arms-alike (D.perform o) = both-faulty
      arms-alike (D.goto s) = both-faulty
      arms-alike (D.call s) = both-faulty
      arms-alike D.return = both-faulty
      arms-alike (D.when c x) = both-faulty
      arms-alike (D.choose c n x) = both-faulty
      arms-alike (D.arm x) = arm-alike x
      arms-alike D.Action.broken = both-faulty

    run_step_lem : (ev on : ℕ → Answers) → ((k : ℕ) → AlikeAll (ev k) (on k)) → (k : ℕ) → AlikeAll (J.run_step d p in_state t ev k) (J.run_step d q in_state u on k)
    run_step_lem ev on parts k i actions = cond-alike (eqb k 0) both-fine (list-alike ev on parts (k - 1) i (action_at d i))
    run_step_lem ev on parts k i arms = cond-alike (eqb k 0) both-fine (arms-alike ev on parts (k - 1) i (action_at d i))

    runs-alike : (k a : ℕ) → AlikeAll (J.run_below d p in_state t k a) (J.run_below d q in_state u k a)
    unfolding J.run_below
    runs-alike k a = below-related AlikeAll _ _ (λ i s. both-faulty) (J.run_step d p in_state t) (J.run_step d q in_state u) run_step_lem k a

    run-alike : (r : Run) → Alike (J.run_judged d p in_state t r) (J.run_judged d q in_state u r)
    unfolding J.run_judged
    run-alike r = run_step_lem _ _ (runs-alike r.count) r.count r.first actions

  -- ---- Operations.

  operation-step : (ev on : ℕ → Judged) → ((o : ℕ) → Alike (ev o) (on o)) → (o : ℕ) → Alike (J.operation_step d p ev o) (J.operation_step d q on o)
  operation-step ev on h o =
      let body = (operation_at d o).body in
      cond-alike (eqb body.count 0) both-faulty (run-alike false ev on h body)

  operations-below : (k o : ℕ) → Alike (operation_below d p k o) (operation_below d q k o)
  unfolding operation_below
  operations-below k o = below-related Alike _ _ both-faulty (J.operation_step d p) (J.operation_step d q) operation-step k o

  operation-alike : (o : ℕ) → Alike (J.operation_judged d p o) (J.operation_judged d q o)
  unfolding J.operation_judged
  operation-alike o = operation-step (operation_below d p o) (operation_below d q o) (operations-below o) o

  operations-together : (k n : ℕ) → Together (L.operations_faults d p k n) (L.operations_faults d q k n)
  unfolding L.operations_faults
  operations-together zero n = no-fault
  operations-together (suc k) n = append-together (faults-together (operation-alike n)) (operations-together k (suc n))

  -- ---- Facilities.

  or-else-together : {xs ys zs ws : List Fault} → Together xs ys → Together zs ws → Together (L.first_faults d p xs zs) (L.first_faults d q ys ws)
  or-else-together no-fault h = h
  or-else-together some-fault h = some-fault

  bound-together : (n : ℕ) (at to : Position) → Together (L.bound_fault d p n at) (L.bound_fault d q n to)
  bound-together n at to = unless-together (leb n largest_bound) at to BadSubscript

  bounds-together : (f : Facility) (at to : FacilityPlaces) → Together (L.bounds_faults d p f at) (L.bounds_faults d q f to)
  unfolding L.bounds_faults
  bounds-together f at to =
      append-together (bound-together f.words.first at.words_first to.words_first)
      (append-together (bound-together f.words.last at.words_last to.words_last)
      (append-together (bound-together f.bits.first at.bits_first to.bits_first) (bound-together f.bits.last at.bits_last to.bits_last)))

  length-together : (l : ℕ) (at to : Position) {i j : Judged} → Alike i j → Together (L.same_length d p l at i) (L.same_length d q l to j)
  length-together l at to (both-fine {w = w}) = unless-together (eqb l w.length) at to BadLength
  length-together l at to both-faulty = some-fault

  facility-together : (n : ℕ) (another : Bool) (before : ℕ) (f : Facility) (at to : FacilityPlaces) → Together (L.facility_faults d p n another before f at) (L.facility_faults d q n another before f to)
  unfolding L.facility_faults L.sequencing_right
  facility-together n another before f at to =
      append-together (unless-together (cond (is_sequencing f.kind) (L.sequencing_right d p another f) true) at.name to.name BadSequencing)
      (append-together (unless-together (leb (before + facility_bytes f) largest_store) at.name to.name CeilingPassed)
      (cond-together (is_computed f.kind) (length-together (word_length f) at.equals to.equals (terminal-alike d p q n)) no-fault))

  facilities-together : (n : ℕ) (another : Bool) (before : ℕ) (fs : List Facility) → Together (L.facilities_faults d p n another before fs) (L.facilities_faults d q n another before fs)
  unfolding L.facilities_faults
  facilities-together n another before [] = no-fault
  facilities-together n another before (f ∷ fs) =
      append-together (or-else-together (bounds-together f (facility_place p n) (facility_place q n)) (facility-together n another before f (facility_place p n) (facility_place q n)))
      (facilities-together (suc n) (another || is_sequencing f.kind) (before + facility_bytes f) fs)

  -- ---- States.

  repeated-same : (n : ℕ) (ms : List ℕ) → L.repeated d p n ms ≡ L.repeated d q n ms
  unfolding L.repeated
  repeated-same n [] = refl
  repeated-same n (m ∷ ms) = ap (λ (b : Bool). eqb n m || b) (repeated-same n ms)

  values-together : (l : Option ℕ) (before : List ℕ) (at to : Position) (v : Option ℕ) → Together (L.value_faults d p l before at v) (L.value_faults d q l before to v)
  values-together none before at to none = no-fault
  values-together none before at to (some n) = some-fault
  values-together (some l) before at to none = no-fault
  values-together (some l) before at to (some n) =
      let v = constant_value (node_at d n) in
      rw (repeated-same v.number before) (unless-together (both (eqb v.length l) (cond (L.repeated d q v.number before) false true)) at to BadSequencing)

  missing-same : (l v : Option ℕ) → L.missing d p l v ≡ L.missing d q l v
  missing-same none v = refl
  missing-same (some l) none = refl
  missing-same (some l) (some n) = refl

  own-together : (l : Option ℕ) (at to : Position) (s : State) {i j : Judged} → Alike i j → Together (L.own_faults d p l at s i) (L.own_faults d q l to s j)
  own-together l at to s (both-fine {w = w}) =
      rw (missing-same l s.value) (append-together (unless-together (cond (L.missing d q l s.value) false true) at to BadSequencing) (unless-together (leb w.work most_work) at to CeilingPassed))
  own-together l at to s both-faulty = some-fault

  state-together : (l : Option ℕ) (before : List ℕ) (at to : StatePlaces) (s : State) → Together (L.state_faults d p l before at s) (L.state_faults d q l before to s)
  unfolding L.state_faults
  state-together l before at to s =
      let v = values-together l before at.value to.value s.value in
      let run = run-alike true _ _ (operations-below (length d.operations)) s.actions in
      rw (none-together v) (cond-together (eqb (length (L.value_faults d q l before to.value s.value)) 0)
      (own-together l at.at to.at s run)
      (append-together v (faults-together run)))

  borne-same : (before : List ℕ) (v : Option ℕ) → L.borne d p before v ≡ L.borne d q before v
  borne-same before none = refl
  borne-same before (some n) = refl

  states-together : (l : Option ℕ) (before : List ℕ) (n : ℕ) (ss : List State) → Together (L.states_faults d p l before n ss) (L.states_faults d q l before n ss)
  unfolding L.states_faults
  states-together l before n [] = no-fault
  states-together l before n (s ∷ ss) =
      rw (borne-same before s.value) (append-together (state-together l before (state_place p n) (state_place q n) s) (states-together l (L.borne d q before s.value) (suc n) ss))

  -- ---- Names.

  names-together : (before ns : List Name) (ps qs : List Position) → Together (L.name_faults before ns ps) (L.name_faults before ns qs)
  unfolding L.name_faults
  names-together before [] ps qs = no-fault
  names-together before (n ∷ ns) [] [] = append-together (unless-together (cond (L.twice n before) false true) D.nowhere D.nowhere BadName) (names-together (n ∷ before) ns [] [])
  names-together before (n ∷ ns) [] (y ∷ qs) = append-together (unless-together (cond (L.twice n before) false true) D.nowhere y BadName) (names-together (n ∷ before) ns [] qs)
  names-together before (n ∷ ns) (x ∷ ps) [] = append-together (unless-together (cond (L.twice n before) false true) x D.nowhere BadName) (names-together (n ∷ before) ns ps [])
  names-together before (n ∷ ns) (x ∷ ps) (y ∷ qs) = append-together (unless-together (cond (L.twice n before) false true) x y BadName) (names-together (n ∷ before) ns ps qs)

  -- ---- All faults of a description.

  sequencing-same : L.sequencing_length d p ≡ L.sequencing_length d q
  unfolding L.sequencing_length
  sequencing-same = go (D.sequencing_of d)
    where
      go : (x : Option ℕ) → L.length_if_any d p x ≡ L.length_if_any d q x
      go none = refl
      go (some n) = refl

  pub together : Together (L.faults d p) (L.faults d q)
  unfolding L.faults
  together =
      rw sequencing-same (append-together (names-together [] (L.names_of d) (L.name_places p) (L.name_places q))
      (append-together (facilities-together 0 false 0 d.facilities)
      (append-together (operations-together (length d.operations) 0) (states-together (L.sequencing_length d q) [] 0 d.states))))

  -- No fault with some places: none with any.
  pub faultless-anywhere : L.faults d p ≡ [] → L.faults d q ≡ []
  faultless-anywhere e = none-as-well together e
