-- The rest of the stages (01, "Refusal numbers"): the faults of a description, of which the least answers. A description is legal when it has none.
use Rattle.std.specs.Prelude.{Bool, true, false, cond, ◌||◌, List, [], ◌∷◌, ◌++◌, map, ℕ, zero, suc, ◌+◌, eqb, leb, length}
use Rattle.std.proofs.Math.Option.{Option, none, some}
use Rattle.language.specs.ActionRules.{operation_below, operation_judged, run_judged}
use Rattle.language.specs.Description as D
use Rattle.language.specs.Description.{Description, Facility, FacilityPlaces, Places, State, StatePlaces, constant_value, facility_at, facility_place, is_computed, is_sequencing, node_at, sequencing_of, state_place, word_length}
use Rattle.language.specs.Expressions.{terminal_judged}
use Rattle.language.specs.Judging.{Judged, faults_of, faulty, fine, unless}
use Rattle.language.specs.Layout.{facility_bytes}
use Rattle.language.specs.declared.refusals.Refusal.TheVariants.{BadLength, BadName, BadSequencing, BadSubscript, CeilingPassed}
use Rattle.language.specs.Scan.{same}
use Rattle.language.specs.Tree.{Name}
use Rattle.language.specs.Ceilings.{largest_bound, largest_store, longest, most_work}
use Rattle.language.specs.Words.{Fault, Position, fault}
use Rattle.language.specs.Tests.{both}

-- ---- Names: one declared before is refused (4).

unfoldable pub declared : Name → List Name → Bool
declared n [] = false
declared n (m ∷ ms) = same n m || declared n ms

-- An unnamed state has no name that could be declared twice.
abbrev pub twice : Name → List Name → Bool
twice [] before = false
twice (c ∷ n) before = declared (c ∷ n) before

unfoldable pub name_faults : List Name → List Name → List Position → List Fault
name_faults before [] ps = []
name_faults before (n ∷ ns) [] = unless (cond (twice n before) false true) D.nowhere BadName ++ name_faults (n ∷ before) ns []
name_faults before (n ∷ ns) (p ∷ ps) = unless (cond (twice n before) false true) p BadName ++ name_faults (n ∷ before) ns ps

abbrev pub names_of : Description → List Name
names_of d = map (λ f. f.name) d.facilities ++ (map (λ o. o.name) d.operations ++ map (λ s. s.name) d.states)

abbrev pub name_places : Places → List Position
name_places p = map (λ f. f.name) p.facilities ++ (p.operations ++ map (λ s. s.at) p.states)

module _ (d : Description) (p : Places) where
  -- ---- Facilities.

  abbrev pub bound_fault : ℕ → Position → List Fault
  bound_fault n at = unless (leb n largest_bound) at BadSubscript

  unfoldable pub bounds_faults : Facility → FacilityPlaces → List Fault
  bounds_faults f at =
      bound_fault f.words.first at.words_first ++ (bound_fault f.words.last at.words_last
      ++ (bound_fault f.bits.first at.bits_first ++ bound_fault f.bits.last at.bits_last))

  -- A sequencing register has at most one dimension and 256 bits, and is the only one (refusal 9).
  unfoldable pub sequencing_right : Bool → Facility → Bool
  sequencing_right another f = both (cond another false true) (both (leb f.dimensions 1) (leb (word_length f) longest))

  -- A computed terminal and its expression are equally long (7).
  abbrev pub same_length : ℕ → Position → Judged → List Fault
  same_length l at (fine w) = unless (eqb l w.length) at BadLength
  same_length l at (faulty f fs) = f ∷ fs

  -- Facility n; `another` sequencing register came before, and `before` bytes of the store.
  unfoldable pub facility_faults : ℕ → Bool → ℕ → Facility → FacilityPlaces → List Fault
  facility_faults n another before f at =
      unless (cond (is_sequencing f.kind) (sequencing_right another f) true) at.name BadSequencing
      ++ (unless (leb (before + facility_bytes f) largest_store) at.name CeilingPassed
      ++ cond (is_computed f.kind) (same_length (word_length f) at.equals (terminal_judged d p n)) [])

  -- A declaration with a bound too large has no further fault.
  abbrev pub first_faults : List Fault → List Fault → List Fault
  first_faults [] more = more
  first_faults (x ∷ xs) more = x ∷ xs

  unfoldable pub facilities_faults : ℕ → Bool → ℕ → List Facility → List Fault
  facilities_faults n another before [] = []
  facilities_faults n another before (f ∷ fs) =
      let at = facility_place p n in
      first_faults (bounds_faults f at) (facility_faults n another before f at)
      ++ facilities_faults (suc n) (another || is_sequencing f.kind) (before + facility_bytes f) fs

  -- ---- Operations.

  unfoldable pub operations_faults : ℕ → ℕ → List Fault
  operations_faults zero n = []
  operations_faults (suc k) n = faults_of (operation_judged d p n) ++ operations_faults k (suc n)

  -- ---- States: values (9) and work (10).

  -- The values that states so far bear.
  abbrev pub borne : List ℕ → Option ℕ → List ℕ
  borne before none = before
  borne before (some n) = (constant_value (node_at d n)).number ∷ before

  -- A value among those of earlier states.
  unfoldable pub repeated : ℕ → List ℕ → Bool
  repeated n [] = false
  repeated n (m ∷ ms) = eqb n m || repeated n ms

  -- A value that is there: unwanted, of another length, or repeated.
  abbrev pub value_faults : Option ℕ → List ℕ → Position → Option ℕ → List Fault
  value_faults none before at none = []
  value_faults none before at (some n) = fault at BadSequencing ∷ []
  value_faults (some l) before at none = []
  value_faults (some l) before at (some n) =
      let v = constant_value (node_at d n) in
      unless (both (eqb v.length l) (cond (repeated v.number before) false true)) at BadSequencing

  abbrev pub missing : Option ℕ → Option ℕ → Bool
  missing none v = false
  missing (some l) none = true
  missing (some l) (some n) = false

  -- The state's own faults: a value that is missing, work that is too much.
  abbrev pub own_faults : Option ℕ → Position → State → Judged → List Fault
  own_faults l at s (fine w) = unless (cond (missing l s.value) false true) at BadSequencing ++ unless (leb w.work most_work) at CeilingPassed
  own_faults l at s (faulty f fs) = f ∷ fs

  abbrev pub operation_count : ℕ
  operation_count = length d.operations

  unfoldable pub state_faults : Option ℕ → List ℕ → StatePlaces → State → List Fault
  state_faults l before at s =
      let run = run_judged d p true (operation_below d p operation_count) s.actions in
      cond (eqb (length (value_faults l before at.value s.value)) 0)
      (own_faults l at.at s run)
      (value_faults l before at.value s.value ++ faults_of run)

  unfoldable pub states_faults : Option ℕ → List ℕ → ℕ → List State → List Fault
  states_faults l before n [] = []
  states_faults l before n (s ∷ ss) =
      state_faults l before (state_place p n) s ++ states_faults l (borne before s.value) (suc n) ss

  -- The length of the sequencing register, if there is one.
  abbrev pub length_if_any : Option ℕ → Option ℕ
  length_if_any none = none
  length_if_any (some n) = some (word_length (facility_at d n))

  unfoldable pub sequencing_length : Option ℕ
  sequencing_length = length_if_any (sequencing_of d)

  -- ---- All faults of a description.

  unfoldable pub faults : List Fault
  faults =
      name_faults [] (names_of d) (name_places p)
      ++ (facilities_faults 0 false 0 d.facilities
      ++ (operations_faults operation_count 0 ++ states_faults sequencing_length [] 0 d.states))
