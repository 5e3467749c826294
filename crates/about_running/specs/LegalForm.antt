-- What a description in legal form has: trees and runs in order, and everything judged fine. Assumes nothing.
use Rattle.std.specs.Prelude.{Bool, ◌||◌, leb, ltb, get_or}
use Rattle.std.proofs.Math.Bool.{true, false, cond}
use mathlib.Core.List.{List, [], ◌∷◌, ◌++◌}
use Rattle.std.proofs.Math.Option.{Option, none, some}
use Rattle.std.proofs.Math.Path.{◌≡◌, refl}
use Rattle.std.proofs.Common.{sym, ap, subst, ◌∙◌}
use native.Mathlib.Omega.{arith}
use Prim.Native.Nat.{ℕ, zero, suc, ◌+◌, ◌≤◌, ◌<◌}
use borrow.Author.Tests.{eqb-true, leb-true, ltb-true, ltb-false, eqb-false}
use Rattle.std.proofs.Math.Dec.{eqb}
use Rattle.std.proofs.Math.ListN.{get_or-eq_default, length}
use Rattle.language.specs.ActionRules.{operation_below, operation_judged, run_judged}
use Rattle.language.specs.Canonical.{all, canonical, counts_right, facilities_right, label_right, name_right}
use Rattle.language.specs.Description as D
use Rattle.language.specs.Description.{Description, Facility, FacilityPlaces, Places, State, StatePlaces, action_at, facility_at, facility_place, is_computed, is_sequencing, no_places, state_at, state_place, word_length}
use Rattle.language.specs.Expressions.{terminal_judged}
use Rattle.language.specs.Image.{legal_form}
use Rattle.language.specs.Judging.{Judged, Worth, faults_of, faulty, fine, unless}
use Rattle.language.specs.Layout.{facility_bytes}
use Rattle.language.specs.Ceilings.{largest_store, most_facilities, most_operations, most_states, most_work}
use Rattle.language.specs.Order.{action_roots, ends_at, facility_roots, operation_roots, operations_end, run_roots, runs_right, start_at, state_roots, states_end, trees_end, trees_right, value_root, ending}
use Rattle.language.specs.declared.refusals.Refusal.TheVariants.{BadLength, BadSequencing, CeilingPassed}
use Rattle.language.specs.Rules as Rules
use Rattle.language.specs.Rules.{bounds_faults, facilities_faults, facility_faults, faults, first_faults, missing, name_faults, name_places, names_of, operations_faults, own_faults, same_length, sequencing_length, sequencing_right, state_faults, states_faults, value_faults}
use Rattle.language.specs.Words.{Fault, Position}
use Rattle.about_running.specs.Judged.{append-none-left, append-none-right, unless-none}
use Rattle.about_running.specs.Ordered.{InOrder, Split, in_order, operations-order, order-left, order-right, states-order, trees-split}
use Rattle.language.specs.Tests.{both}

pub left-of : (a b : Bool) → both a b ≡ true → a ≡ true
left-of true b h = refl
left-of false b h = h

pub right_of : (a b : Bool) → both a b ≡ true → b ≡ true
right_of true b h = h
right_of false b h = absurd (let z : ◌≡◌ {A = ℕ} 0 1 = cc in omega arith)

nothing : {A : Type 0} (xs : List A) → length xs ≡ 0 → xs ≡ []
nothing [] e = refl
nothing (x ∷ xs) e = absurd (omega arith)

fine_of : (j : Judged) → faults_of j ≡ [] → (w : Worth) × (j ≡ fine w)
fine_of (fine w) e = (w, refl)
fine_of (faulty f fs) e = absurd (let z : ◌≡◌ {A = ℕ} 0 1 = cc in omega arith)

ends_so : (d : Description) (n : ℕ) (x : Option ℕ) → ends_at d n x ≡ true → x ≡ some n
ends_so d n none e = absurd (let z : ◌≡◌ {A = ℕ} 0 1 = cc in omega arith)
ends_so d n (some m) e = ap some (eqb-true m n e)

module _ (d : Description) (p : Places) where
  -- ---- Facilities.

  pub or-else-both : (xs ys : List Fault) → first_faults d p xs ys ≡ [] → ys ≡ []
  or-else-both [] ys e = e
  or-else-both (x ∷ xs) ys e = absurd (let z : ◌≡◌ {A = ℕ} 0 1 = cc in omega arith)

  -- The faults of facility i, whatever came before it.
  pub facility-none : (fs : List Facility) (n i : ℕ) (another : Bool) (before : ℕ) → facilities_faults d p n another before fs ≡ [] → i < length fs
      → (a : Bool) × ((b : ℕ) × (facility_faults d p (n + i) a b (get_or fs i D.no_facility) (facility_place p (n + i)) ≡ []))
  unfolding facilities_faults
  facility-none [] n i another before e h = absurd (omega arith)
  facility-none (f ∷ fs) n zero another before e h =
      let z : n + 0 ≡ n = omega arith in
      (another, (before, rw z (or-else-both (bounds_faults d p f (facility_place p n)) _ (append-none-left _ _ e))))
  facility-none (f ∷ fs) n (suc i) another before e h =
      let z : n + suc i ≡ suc n + i = omega arith in
      rw z (facility-none fs (suc n) i (another || is_sequencing f.kind) (before + facility_bytes f)
      (append-none-right (first_faults d p (bounds_faults d p f (facility_place p n)) (facility_faults d p n another before f (facility_place p n))) _ e) (omega arith))

  same-so : (l : ℕ) (at : Position) (j : Judged) → same_length d p l at j ≡ [] → (w : Worth) × (j ≡ fine w) × (l ≡ w.length)
  same-so l at (fine w) e = (w, refl, eqb-true _ _ (unless-none (eqb l w.length) at BadLength e))
  same-so l at (faulty f fs) e = absurd (let z : ◌≡◌ {A = ℕ} 0 1 = cc in omega arith)

  terminal-fine : (n : ℕ) (a : Bool) (b : ℕ) (f : Facility) (at : FacilityPlaces) → facility_faults d p n a b f at ≡ [] → is_computed f.kind ≡ true
      → (w : Worth) × (terminal_judged d p n ≡ fine w) × (word_length f ≡ w.length)
  unfolding facility_faults
  terminal-fine n a b f at e c =
      let own : List Fault = cond (is_computed f.kind) (same_length d p (word_length f) at.equals (terminal_judged d p n)) [] in
      let store : List Fault = unless (leb (b + facility_bytes f) largest_store) at.name CeilingPassed in
      let e1 : store ++ own ≡ [] = append-none-right (unless (cond (is_sequencing f.kind) (sequencing_right d p a f) true) at.name BadSequencing) (store ++ own) e in
      let e2 : own ≡ [] = append-none-right store own e1 in
      let e3 : cond (is_computed f.kind) (same_length d p (word_length f) at.equals (terminal_judged d p n)) [] ≡ [] = e2 in
      same-so (word_length f) at.equals (terminal_judged d p n) (ap (λ (t : Bool). cond t (same_length d p (word_length f) at.equals (terminal_judged d p n)) []) (sym c) ∙ e3)

  -- ---- Operations.

  operation-fine : (k n i : ℕ) → operations_faults d p k n ≡ [] → i < k → (w : Worth) × (operation_judged d p (n + i) ≡ fine w)
  unfolding operations_faults
  operation-fine zero n i e h = absurd (omega arith)
  operation-fine (suc k) n zero e h = let z : n + 0 ≡ n = omega arith in rw z (fine_of (operation_judged d p n) (append-none-left _ _ e))
  operation-fine (suc k) n (suc i) e h =
      let z : n + suc i ≡ suc n + i = omega arith in
      rw z (operation-fine k (suc n) i (append-none-right (faults_of (operation_judged d p n)) _ e) (omega arith))

  -- ---- States.

  abbrev run_of : State → Judged
  run_of s = run_judged d p true (operation_below d p (length d.operations)) s.actions

  -- What holds of a state without fault: its actions are fine, and its value is there where a register wants it, of that length.
  pub record Right (l : Option ℕ) (before : List ℕ) (at : StatePlaces) (s : State) : Type 0 where
    pub run-worth : Worth
    pub run-fine : run_of s ≡ fine run-worth
    pub little-work : run-worth.work ≤ most_work
    pub there : missing d p l s.value ≡ false
    pub value-right : value_faults d p l before at.value s.value ≡ []

  not-false : (b : Bool) → cond b false true ≡ true → b ≡ false
  not-false true e = absurd (let z : ◌≡◌ {A = ℕ} 0 1 = cc in omega arith)
  not-false false e = refl

  own-none : (l : Option ℕ) (before : List ℕ) (at : StatePlaces) (s : State) (j : Judged) → run_of s ≡ j → value_faults d p l before at.value s.value ≡ [] → own_faults d p l at.at s j ≡ [] → Right l before at s
  own-none l before at s (fine w) q v e =
      record {
        run-worth = w;
        run-fine = q;
        little-work = leb-true w.work most_work (unless-none (leb w.work most_work) at.at CeilingPassed (append-none-right (unless (cond (missing d p l s.value) false true) at.at BadSequencing) _ e));
        there = not-false (missing d p l s.value) (unless-none (cond (missing d p l s.value) false true) at.at BadSequencing (append-none-left _ _ e));
        value-right = v;
      }
  own-none l before at s (faulty f fs) q v e = absurd (let z : ◌≡◌ {A = ℕ} 0 1 = cc in omega arith)

  state-none : (l : Option ℕ) (before : List ℕ) (at : StatePlaces) (s : State) → state_faults d p l before at s ≡ [] → Right l before at s
  unfolding state_faults
  state-none l before at s e = go (eqb (length (value_faults d p l before at.value s.value)) 0) refl e
    where
      go : (b : Bool) → eqb (length (value_faults d p l before at.value s.value)) 0 ≡ b
          → cond b (own_faults d p l at.at s (run_of s)) (value_faults d p l before at.value s.value ++ faults_of (run_of s)) ≡ [] → Right l before at s
      go true q k = own-none l before at s (run_of s) refl (nothing (value_faults d p l before at.value s.value) (eqb-true _ _ q)) k
      go false q k =
          let z : value_faults d p l before at.value s.value ≡ [] = append-none-left (value_faults d p l before at.value s.value) (faults_of (run_of s)) k in
          absurd (let y : ◌≡◌ {A = ℕ} 0 1 = eqb-wrong (length (value_faults d p l before at.value s.value)) (ap length z) q in omega arith)
        where
          eqb-wrong : (n : ℕ) → n ≡ 0 → eqb n 0 ≡ false → ◌≡◌ {A = ℕ} 0 1
          eqb-wrong n a b = absurd (eqb-false n 0 b a)

  pub states-right : (ss : List State) (l : Option ℕ) (before : List ℕ) (n i : ℕ) → states_faults d p l before n ss ≡ [] → i < length ss
      → (b : List ℕ) × ((at : StatePlaces) × Right l b at (get_or ss i (record { name = []; value = none; actions = D.no_run })))
  unfolding states_faults
  states-right [] l before n i e h = absurd (omega arith)
  states-right (s ∷ ss) l before n zero e h = (before, (state_place p n, state-none l before (state_place p n) s (append-none-left _ _ e)))
  states-right (s ∷ ss) l before n (suc i) e h =
      states-right ss l (Rules.borne d p before s.value) (suc n) i (append-none-right (state_faults d p l before (state_place p n) s) _ e) (omega arith)

-- What legal form comes to.
pub record Legal (d : Description) : Type 0 where
  -- where the trees of computed terminals end, and those of actions begin
  pub base : ℕ
  pub terminals-order : trees_end d 0 (facility_roots d d.facilities) ≡ some base
  pub actions-order : (i : ℕ) → InOrder d base (length d.expressions) (action_roots d (action_at d i))
  pub terminals : (f : ℕ) → f < length d.facilities → is_computed (facility_at d f).kind ≡ true → (w : Worth) × (terminal_judged d no_places f ≡ fine w) × (word_length (facility_at d f) ≡ w.length)
  pub operations : (o : ℕ) → o < length d.operations → (w : Worth) × (operation_judged d no_places o ≡ fine w)
  pub states : (s : ℕ) → s < length d.states → (b : List ℕ) × ((at : StatePlaces) × Right d no_places (sequencing_length d no_places) b at (state_at d s))
  pub values : (s n : ℕ) → s < length d.states → (state_at d s).value ≡ some n → (m : ℕ) × (start_at d n ≡ some m)
  pub some-state : 0 < length d.states
  pub few-states : length d.states ≤ most_states

-- The value of a state stands in order.
value-order : (d : Description) (at m : ℕ) (ss : List State) (i n : ℕ) → InOrder d at m (state_roots d ss) → i < length ss
    → (get_or ss i (record { name = []; value = none; actions = D.no_run })).value ≡ some n → (k : ℕ) × (start_at d n ≡ some k)
unfolding state_roots
value-order d at m [] i n o h e = absurd (omega arith)
value-order d at m (x ∷ ss) zero n o h e =
    let o' = order-left d at m (value_root d x.value) (run_roots d x.actions.count x.actions.first ++ state_roots d ss) o in
    let o'' : InOrder d at m (value_root d (some n)) = subst (λ (v : Option ℕ). InOrder d at m (value_root d v)) e o' in
    (o''.0.0, o''.0.1)
value-order d at m (x ∷ ss) (suc i) n o h e =
    let o' = order-right d at m (value_root d x.value) (run_roots d x.actions.count x.actions.first ++ state_roots d ss) o in
    value-order d at m ss i n (order-right d at m (run_roots d x.actions.count x.actions.first) (state_roots d ss) o') (omega arith) e

beyond : (d : Description) (i : ℕ) → length d.actions ≤ i → action_at d i ≡ D.Action.broken
unfolding action_at
beyond d i l = get_or-eq_default d.actions D.Action.broken l

-- What a description without fault has, whatever its form.
module _ (d : Description) (none-there : faults d no_places ≡ []) where
  names-none : name_faults [] (names_of d) (name_places no_places) ++ (facilities_faults d no_places 0 false 0 d.facilities ++ (operations_faults d no_places (length d.operations) 0 ++ states_faults d no_places (sequencing_length d no_places) [] 0 d.states)) ≡ []
  unfolding faults
  names-none = none-there

  pub after-names : facilities_faults d no_places 0 false 0 d.facilities ++ (operations_faults d no_places (length d.operations) 0 ++ states_faults d no_places (sequencing_length d no_places) [] 0 d.states) ≡ []
  after-names = append-none-right (name_faults [] (names_of d) (name_places no_places)) _ names-none

  after-facilities : operations_faults d no_places (length d.operations) 0 ++ states_faults d no_places (sequencing_length d no_places) [] 0 d.states ≡ []
  after-facilities = append-none-right (facilities_faults d no_places 0 false 0 d.facilities) _ after-names

  pub terminals-fine : (f : ℕ) → f < length d.facilities → is_computed (facility_at d f).kind ≡ true → (w : Worth) × (terminal_judged d no_places f ≡ fine w) × (word_length (facility_at d f) ≡ w.length)
  unfolding facility_at
  terminals-fine f l c =
      let y = facility-none d no_places d.facilities 0 f false 0 (append-none-left _ _ after-names) l in
      let z : 0 + f ≡ f = omega arith in
      terminal-fine d no_places f y.0 y.1.0 (facility_at d f) (facility_place no_places f) (rw z at y.1.1) c

  pub operations-fine : (o : ℕ) → o < length d.operations → (w : Worth) × (operation_judged d no_places o ≡ fine w)
  operations-fine o l =
      let z : 0 + o ≡ o = omega arith in
      rw z at (operation-fine d no_places (length d.operations) 0 o (append-none-left _ _ after-facilities) l)

  pub states-fine : (s : ℕ) → s < length d.states → (b : List ℕ) × ((at : StatePlaces) × Right d no_places (sequencing_length d no_places) b at (state_at d s))
  unfolding state_at
  states-fine s l = states-right d no_places d.states (sequencing_length d no_places) [] 0 s (append-none-right (operations_faults d no_places (length d.operations) 0) _ after-facilities) l

module _ (d : Description) (h : legal_form d ≡ true) where
  pub canonical-so : canonical d ≡ true
  unfolding legal_form
  canonical-so = left-of (canonical d) (eqb (length (faults d no_places)) 0) h

  pub no-faults : faults d no_places ≡ []
  unfolding legal_form
  no-faults = nothing (faults d no_places) (eqb-true _ _ (right_of (canonical d) (eqb (length (faults d no_places)) 0) h))

  pub counts-so : counts_right d ≡ true
  unfolding canonical
  counts-so = left-of (counts_right d) _ canonical-so

  pub orders-so : both (trees_right d) (runs_right d) ≡ true
  unfolding canonical
  orders-so =
      right_of (all (λ s. label_right s.name s.value) d.states) _
      (right_of (all (λ o. name_right o.name) d.operations) _
      (right_of (all (λ f. name_right f.name) d.facilities) _
      (right_of (facilities_right 0 d.facilities) _ (right_of (counts_right d) _ canonical-so))))

  pub trees-so : trees_end d 0 (facility_roots d d.facilities ++ (operation_roots d d.operations ++ state_roots d d.states)) ≡ some (length d.expressions)
  unfolding trees_right
  trees-so = ends_so d (length d.expressions) _ (left-of (trees_right d) (runs_right d) orders-so)

  -- the runs of operations end at `middle`, those of states at the section's end
  pub record Runs : Type 0 where
    pub middle : ℕ
    pub first : operations_end d 0 d.operations ≡ some middle
    pub second : states_end d middle d.states ≡ some (length d.actions)

  pub runs_so : Runs
  unfolding runs_right
  runs_so = go (operations_end d 0 d.operations) refl (ends_so d (length d.actions) _ (right_of (trees_right d) (runs_right d) orders-so))
    where
      go : (x : Option ℕ) → operations_end d 0 d.operations ≡ x → ending x (λ at. states_end d at d.states) ≡ some (length d.actions) → Runs
      go none q e = absurd (let z : ◌≡◌ {A = ℕ} 0 1 = cc in omega arith)
      go (some m) q e = record { middle = m; first = q; second = e }

  split : Split d 0 (facility_roots d d.facilities) (operation_roots d d.operations ++ state_roots d d.states) (length d.expressions)
  split = trees-split d 0 (facility_roots d d.facilities) (operation_roots d d.operations ++ state_roots d d.states) (length d.expressions) trees-so

  actions-in-order : (i : ℕ) → InOrder d split.middle (length d.expressions) (action_roots d (action_at d i))
  actions-in-order i = go (ltb i (length d.actions)) refl (ltb i runs_so.middle) refl
    where
      order : InOrder d split.middle (length d.expressions) (operation_roots d d.operations ++ state_roots d d.states)
      order = in_order d split.middle (operation_roots d d.operations ++ state_roots d d.states) (length d.expressions) split.right

      go : (t : Bool) → ltb i (length d.actions) ≡ t → (u : Bool) → ltb i runs_so.middle ≡ u → InOrder d split.middle (length d.expressions) (action_roots d (action_at d i))
      go true q true r =
          operations-order d split.middle (length d.expressions) 0 runs_so.middle i d.operations
          (order-left d split.middle (length d.expressions) (operation_roots d d.operations) (state_roots d d.states) order) runs_so.first (omega arith) (ltb-true i runs_so.middle r)
      go true q false r =
          states-order d split.middle (length d.expressions) runs_so.middle (length d.actions) i d.states
          (order-right d split.middle (length d.expressions) (operation_roots d d.operations) (state_roots d d.states) order) runs_so.second (ltb-false i runs_so.middle r) (ltb-true i (length d.actions) q)
      go false q u r = rw (no-action (ltb-false i (length d.actions) q)) tt
        where
          no-action : length d.actions ≤ i → action_at d i ≡ D.Action.broken
          no-action l = beyond d i l

  values-so : (s n : ℕ) → s < length d.states → (state_at d s).value ≡ some n → (m : ℕ) × (start_at d n ≡ some m)
  unfolding state_at
  values-so s n l e =
      let o = in_order d split.middle (operation_roots d d.operations ++ state_roots d d.states) (length d.expressions) split.right in
      value-order d split.middle (length d.expressions) d.states s n (order-right d split.middle (length d.expressions) (operation_roots d d.operations) (state_roots d d.states) o) l e

  some-state-so : 0 < length d.states
  unfolding counts_right
  some-state-so =
      ltb-true 0 (length d.states)
      (left-of (ltb 0 (length d.states)) _
      (right_of (leb (length d.states) most_states) _ (right_of (leb (length d.operations) most_operations) _ (right_of (leb (length d.facilities) most_facilities) _ counts-so))))

  few-states-so : length d.states ≤ most_states
  unfolding counts_right
  few-states-so =
      leb-true (length d.states) most_states
      (left-of (leb (length d.states) most_states) _ (right_of (leb (length d.operations) most_operations) _ (right_of (leb (length d.facilities) most_facilities) _ counts-so)))

  pub legal : Legal d
  legal = record {
    base = split.middle;
    terminals-order = split.left;
    actions-order = actions-in-order;
    terminals = terminals-fine d no-faults;
    operations = operations-fine d no-faults;
    states = states-fine d no-faults;
    values = values-so;
    some-state = some-state-so;
    few-states = few-states-so;
  }
