-- LENGTHS-RIGHT: where no fault stands but of refusal 7, a description has none exactly when all its lengths are right by the sentences of 01 (ActionsRight). Assumes nothing.
use Rattle.std.specs.Prelude.{Bool, cond, ◌||◌, ◌↔◌, ◌≡◌, refl, eqb, leb, get_or, length}
use Rattle.std.proofs.Math.Bool.{true, false}
use mathlib.Core.List.{List, [], ◌∷◌, ◌++◌}
use Rattle.std.proofs.Math.Option.{Option, none, some}
use Rattle.std.proofs.Math.Path.{subst}
use native.Mathlib.Omega.{arith}
use Prim.Native.Nat.{ℕ, zero, suc, ◌+◌, ◌<◌}
use borrow.Author.Tests.{eq-eqb}
use Rattle.language.specs.ActionRules.{operation_below, operation_judged, run_judged}
use Rattle.language.specs.Description as D
use Rattle.language.specs.Description.{Description, Facility, FacilityPlaces, Places, State, StatePlaces, facility_at, facility_place, is_computed, is_sequencing, constant_value, no_places, node_at, state_at, state_place, word_length}
use Rattle.language.specs.Expressions.{terminal_judged}
use Rattle.language.specs.Judging.{Worth, fine, unless, worth}
use Rattle.language.specs.Layout.{facility_bytes}
use Rattle.language.specs.Rules as Rules
use Rattle.language.specs.Rules.{bounds_faults, facilities_faults, facility_faults, faults, first_faults, name_faults, name_places, names_of, operations_faults, own_faults, same_length, sequencing_length, sequencing_right, state_faults, states_faults, twice, value_faults}
use Rattle.language.specs.Ceilings.{largest_bound, largest_store, most_work}
use Rattle.language.specs.Tree.{Name}
use Rattle.language.specs.declared.refusals.Refusal.{Refusal}
use Rattle.language.specs.declared.refusals.Refusal.TheVariants.{BadLength, BadName, BadSequencing, BadSubscript, CeilingPassed}
use Rattle.language.specs.Words.{Fault, Position}
use Rattle.about_running.specs.LegalForm.{operations-fine, states-fine, terminals-fine}
use Rattle.about_rules.proofs.ActionsJudged.{acts-right, right-run}
use Rattle.about_rules.specs.ActionsRight.{LengthsRight}
use Rattle.about_rules.specs.FaultsAlike.{faultless-anywhere}
use Rattle.about_rules.proofs.FineIsRight.{operations-right}
use Rattle.about_rules.proofs.LengthsJudged.{fine-long, has-length}
use Rattle.about_rules.proofs.RightIsFine.{operation-so, right-is-fine}
use Rattle.language.specs.Tests.{both}

-- ---- Where there is no fault, all lengths are right.

module _ (d : Description) where
  none_right : faults d no_places ≡ [] → LengthsRight d
  unfolding operation_judged terminal_judged
  none_right e = record {
    terminals = λ f l c. let t = terminals-fine d e f l c in rw t.2 (fine-long d no_places f (facility_at d f).expression t.1);
    operations = λ o l. operations-right d no_places (suc o) o _ (omega arith) (operations-fine d e o l).1;
    states = λ t l. right-run d no_places true (length d.operations) (state_at d t).actions (states-fine d e t l).1.1.run-fine;
  }

-- ---- Where all lengths are right, no fault is of refusal 7.

pub data Every (P : Fault → Type 0) : List Fault → Type 0 where
  nothing : Every P []
  more : {f : Fault} {fs : List Fault} → P f → Every P fs → Every P (f ∷ fs)

-- A fault of refusal 7, and one of another.
abbrev pub OfLength : Fault → Type 0
OfLength f = f.refusal ≡ BadLength

abbrev pub Other : Fault → Type 0
Other f = f.refusal ≡ BadLength → ⊥

abbrev Others : List Fault → Type 0
Others fs = Every Other fs

others-append : {xs ys : List Fault} → Others xs → Others ys → Others (xs ++ ys)
others-append nothing k = k
others-append (more h a) k = more h (others-append a k)

others-unless : (b : Bool) (at : Position) (r : Refusal) → (r ≡ BadLength → ⊥) → Others (unless b at r)
others-unless true at r h = nothing
others-unless false at r h = more h nothing

not-name : BadName ≡ BadLength → ⊥
not-name e = let z : ◌≡◌ {A = ℕ} 0 1 = cc in omega arith

not-subscript : BadSubscript ≡ BadLength → ⊥
not-subscript e = let z : ◌≡◌ {A = ℕ} 0 1 = cc in omega arith

not-sequencing : BadSequencing ≡ BadLength → ⊥
not-sequencing e = let z : ◌≡◌ {A = ℕ} 0 1 = cc in omega arith

not-ceiling : CeilingPassed ≡ BadLength → ⊥
not-ceiling e = let z : ◌≡◌ {A = ℕ} 0 1 = cc in omega arith

others-names : (before : List Name) (ns : List Name) (ps : List Position) → Others (name_faults before ns ps)
unfolding name_faults
others-names before [] ps = nothing
others-names before (n ∷ ns) [] = others-append (others-unless (cond (twice n before) false true) D.nowhere BadName not-name) (others-names (n ∷ before) ns [])
others-names before (n ∷ ns) (p ∷ ps) = others-append (others-unless (cond (twice n before) false true) p BadName not-name) (others-names (n ∷ before) ns ps)

module _ (d : Description) (p : Places) where
  -- ---- Facilities: a computed terminal and its expression are equally long.

  abbrev TerminalRight : ℕ → Facility → Type 0
  TerminalRight n f = is_computed f.kind ≡ true → (work : ℕ) × (terminal_judged d p n ≡ worth (word_length f) 0 work)

  others-bound : (n : ℕ) (at : Position) → Others (Rules.bound_fault d p n at)
  others-bound n at = others-unless (leb n largest_bound) at BadSubscript not-subscript

  others-bounds : (f : Facility) (at : FacilityPlaces) → Others (bounds_faults d p f at)
  unfolding bounds_faults
  others-bounds f at =
      others-append (others-bound f.words.first at.words_first)
      (others-append (others-bound f.words.last at.words_last) (others-append (others-bound f.bits.first at.bits_first) (others-bound f.bits.last at.bits_last)))

  others-else : (xs ys : List Fault) → Others xs → Others ys → Others (first_faults d p xs ys)
  others-else [] ys h k = k
  others-else (x ∷ xs) ys h k = h

  others-facility : (n : ℕ) (another : Bool) (before : ℕ) (f : Facility) (at : FacilityPlaces) → TerminalRight n f → Others (facility_faults d p n another before f at)
  unfolding facility_faults
  others-facility n another before f at h =
      others-append (others-unless (cond (is_sequencing f.kind) (sequencing_right d p another f) true) at.name BadSequencing not-sequencing)
      (others-append (others-unless (leb (before + facility_bytes f) largest_store) at.name CeilingPassed not-ceiling) (go (is_computed f.kind) refl))
    where
      go : (t : Bool) → is_computed f.kind ≡ t → Others (cond t (same_length d p (word_length f) at.equals (terminal_judged d p n)) [])
      go true q = let e = h q in rw (e.1, eq-eqb (word_length f) (word_length f) refl) nothing
      go false q = nothing

  others-facilities : (fs : List Facility) (n : ℕ) (another : Bool) (before : ℕ) → ((i : ℕ) → i < length fs → TerminalRight (n + i) (get_or fs i D.no_facility))
      → Others (facilities_faults d p n another before fs)
  unfolding facilities_faults
  others-facilities [] n another before h = nothing
  others-facilities (f ∷ fs) n another before h =
      let z : n + 0 ≡ n = omega arith in
      let first : TerminalRight n f = subst (λ (m : ℕ). TerminalRight m f) z (h 0 (omega arith)) in
      others-append (others-else _ _ (others-bounds f (facility_place p n)) (others-facility n another before f (facility_place p n) first))
      (others-facilities fs (suc n) (another || is_sequencing f.kind) (before + facility_bytes f)
      (λ i l. let y : n + suc i ≡ suc n + i = omega arith in subst (λ (m : ℕ). TerminalRight m (get_or fs i D.no_facility)) y (h (suc i) (omega arith))))

  -- ---- Operations.

  others-operations : (k n : ℕ) → ((o : ℕ) → o < n + k → (w : Worth) × (operation_judged d p o ≡ fine w)) → Others (operations_faults d p k n)
  unfolding operations_faults
  others-operations zero n h = nothing
  others-operations (suc k) n h =
      let e = h n (omega arith) in
      rw e.1 (others-operations k (suc n) (λ o l. h o (omega arith)))

  -- ---- States.

  others-value : (l : Option ℕ) (before : List ℕ) (at : Position) (v : Option ℕ) → Others (value_faults d p l before at v)
  others-value none before at none = nothing
  others-value none before at (some n) = more not-sequencing nothing
  others-value (some l) before at none = nothing
  others-value (some l) before at (some n) =
      let v = constant_value (node_at d n) in
      others-unless (both (eqb v.length l) (cond (Rules.repeated d p v.number before) false true)) at BadSequencing not-sequencing

  others-state : (l : Option ℕ) (before : List ℕ) (at : StatePlaces) (s : State)
      → (w : Worth) × (run_judged d p true (operation_below d p (length d.operations)) s.actions ≡ fine w) → Others (state_faults d p l before at s)
  unfolding state_faults
  others-state l before at s h =
      rw h.1 (go (eqb (length (value_faults d p l before at.value s.value)) 0))
    where
      go : (t : Bool) → Others (cond t (own_faults d p l at.at s (fine h.0)) (value_faults d p l before at.value s.value ++ []))
      go true =
          others-append (others-unless (cond (Rules.missing d p l s.value) false true) at.at BadSequencing not-sequencing) (others-unless (leb h.0.work most_work) at.at CeilingPassed not-ceiling)
      go false = others-append (others-value l before at.value s.value) nothing

  others-states : (ss : List State) (l : Option ℕ) (before : List ℕ) (n : ℕ)
      → ((i : ℕ) → i < length ss → (w : Worth) × (run_judged d p true (operation_below d p (length d.operations)) (get_or ss i (record { name = []; value = none; actions = D.no_run })).actions ≡ fine w))
      → Others (states_faults d p l before n ss)
  unfolding states_faults
  others-states [] l before n h = nothing
  others-states (s ∷ ss) l before n h =
      others-append (others-state l before (state_place p n) s (h 0 (omega arith)))
      (others-states ss l (Rules.borne d p before s.value) (suc n) (λ i k. h (suc i) (omega arith)))

  -- ---- All of it.

  module _ (r : LengthsRight d) where
    terminals-so : (f : ℕ) → f < length d.facilities → TerminalRight (0 + f) (get_or d.facilities f D.no_facility)
    unfolding terminal_judged facility_at
    terminals-so f l c = let z : 0 + f ≡ f = omega arith in rw z ((has-length d p f (facility_at d f).expression (word_length (facility_at d f))).0 (r.terminals f l c))

    operations-so : (o : ℕ) → o < 0 + length d.operations → (w : Worth) × (operation_judged d p o ≡ fine w)
    unfolding operation_judged
    operations-so o l = let b = r.operations o (omega arith) in (_, operation-so d p o b.0 (right-is-fine d p b.1))

    states-so : (t : ℕ) → t < length d.states
        → (w : Worth) × (run_judged d p true (operation_below d p (length d.operations)) (get_or d.states t (record { name = []; value = none; actions = D.no_run })).actions ≡ fine w)
    unfolding state_at
    states-so t l = (acts-right d p true (length d.operations) (state_at d t).actions).0 (r.states t l)

    pub no_seven : Every Other (faults d p)
    unfolding faults
    no_seven =
        others-append (others-names [] (names_of d) (name_places p))
        (others-append (others-facilities d.facilities 0 false 0 terminals-so)
        (others-append (others-operations (length d.operations) 0 operations-so) (others-states d.states (sequencing_length d p) [] 0 states-so)))

  neither : {fs : List Fault} → Every OfLength fs → Every Other fs → fs ≡ []
  neither nothing k = refl
  neither (more h a) (more g b) = absurd (g h)

  -- A description without fault has all lengths right, whatever the places.
  pub faultless-right : faults d p ≡ [] → LengthsRight d
  faultless-right e = none_right d (faultless-anywhere d p no_places e)

  -- Where every fault is of refusal 7, there is none exactly when all lengths are right.
  pub lengths-right : Every OfLength (faults d p) → (faults d p ≡ []) ↔ LengthsRight d
  lengths-right h = (faultless-right, λ r. neither h (no_seven r))
