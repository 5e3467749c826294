-- The names of a description and their places, by number.
use mathlib.Core.List.{List, [], ◌∷◌, ◌++◌, map}
use mathlib.Core.Path.{◌≡◌, refl, sym, ap, ap₂, ◌∙◌}
use native.Mathlib.Omega.{arith}
use Prim.Native.Nat.{ℕ, zero, suc, ◌+◌, ◌*◌, ◌/◌}
use lib.ListN.{drop, get_or, length, take}
use lib.Seq.{drop-drop}
use Rattle.language.specs.Decode.{described, facilities_at, facility_of, names_length, operations_at, states_at, up_to}
use Rattle.language.specs.Description.{Facility, FacilityPlaces, Operation, State, StatePlaces}
use Rattle.language.specs.Encode.{Sections, facility_size, operation_size, state_size}
use Rattle.language.specs.Rules.{name_faults, name_places, names_of}
use Rattle.language.specs.Tree.{Name}
use Rattle.language.specs.WordStage.{least}
use Rattle.language.specs.Words.{Position}
use Rattle.judge_records.specs.Noted.{Beside, facility_places_no, noted_description, place_no, places_in, state_places_no, widened_facilities, widened_facility}
use Rattle.judge_names.specs.Numbered.{lengths_at, lengths_of, name_no, offset_of, places_of}

-- ---- Names cut one after the other, by their lengths.

unfoldable cut : List ℕ → List ℕ → List Name
cut [] names = []
cut (l ∷ ls) names = take l names ∷ cut ls (drop l names)

cut-facilities : (k at : ℕ) (s names : List ℕ) → map (λ (f : Facility). f.name) (facilities_at k at s names) ≡ cut (lengths_at k (at + 2) facility_size s) names
unfolding facilities_at facility_of cut lengths_at
cut-facilities zero at s names = refl
cut-facilities (suc k) at s names =
    let e : at + facility_size + 2 ≡ at + 2 + facility_size = omega arith in
    ap (λ (ns : List Name). take (get_or s (at + 2) 0) names ∷ ns) (cut-facilities k (at + facility_size) s (drop (get_or s (at + 2) 0) names) ∙ rw e)

cut-operations : (k at : ℕ) (s names : List ℕ) → map (λ (o : Operation). o.name) (operations_at k at s names) ≡ cut (lengths_at k at 5 s) names
unfolding operations_at cut lengths_at
cut-operations zero at s names = refl
cut-operations (suc k) at s names =
    ap (λ (ns : List Name). take (get_or s at 0) names ∷ ns) (cut-operations k (at + operation_size) s (drop (get_or s at 0) names))

cut-states : (k at : ℕ) (s names : List ℕ) → map (λ (x : State). x.name) (states_at k at s names) ≡ cut (lengths_at k at 7 s) names
unfolding states_at cut lengths_at
cut-states zero at s names = refl
cut-states (suc k) at s names =
    ap (λ (ns : List Name). take (get_or s at 0) names ∷ ns) (cut-states k (at + state_size) s (drop (get_or s at 0) names))

-- Names of a section, and those after them.
cut-both : (k at size : ℕ) (s more names : List ℕ)
    → cut (lengths_at k at size s ++ more) names ≡ cut (lengths_at k at size s) names ++ cut more (drop (names_length k at size s) names)
unfolding cut lengths_at names_length
cut-both zero at size s more names = refl
cut-both (suc k) at size s more names =
    rw (← drop-drop (names_length k (at + size) size s) (get_or s at 0) names)
    (ap (λ (ns : List Name). take (get_or s at 0) names ∷ ns) (cut-both k (at + size) size s more (drop (get_or s at 0) names)))

widened-names : (s : List ℕ) (n : ℕ) (fs : List Facility) → map (λ (f : Facility). f.name) (widened_facilities s n fs) ≡ map (λ (f : Facility). f.name) fs
unfolding widened_facilities widened_facility
widened-names s n [] = refl
widened-names s n (f ∷ fs) = ap (λ (ns : List Name). f.name ∷ ns) (widened-names s (suc n) fs)

cut-described : (x : Sections) (q : Beside) → names_of (noted_description x q) ≡ cut (lengths_of x.facilities x.operations x.states) x.names
unfolding noted_description described lengths_of
cut-described x q =
    let f : ℕ = length x.facilities / facility_size in
    let o : ℕ = length x.operations / operation_size in
    let s : ℕ = length x.states / state_size in
    let second : List ℕ = drop (names_length f 2 facility_size x.facilities) x.names in
    let third : List ℕ = drop (names_length o 0 operation_size x.operations) second in
    rw (
      widened-names q.facilities 0 (facilities_at f 0 x.facilities x.names),
      cut-facilities f 0 x.facilities x.names,
      cut-operations o 0 x.operations second,
      cut-states s 0 x.states third,
      cut-both f 2 facility_size x.facilities (lengths_at o 0 operation_size x.operations ++ lengths_at s 0 state_size x.states) x.names,
      cut-both o 0 5 x.operations (lengths_at s 0 state_size x.states) second,
    )

-- ---- The same by number.

offset-cons : (k l : ℕ) (ls : List ℕ) → offset_of (suc k) (l ∷ ls) ≡ l + offset_of k ls
unfolding offset_of
offset-cons zero l ls = omega arith
offset-cons (suc k) l ls = omega (arith, offset-cons k l ls)

name-cons : (l : ℕ) (ls names : List ℕ) (k : ℕ) → name_no (l ∷ ls) names (suc k) ≡ name_no ls (drop l names) k
unfolding name_no
name-cons l ls names k = rw (offset-cons k l ls, drop-drop (offset_of k ls) l names)

up-to-shift : {A : Type 0} (f g : ℕ → A) → ((k : ℕ) → f (suc k) ≡ g k) → (i k : ℕ) → up_to f (suc i) k ≡ up_to g i k
unfolding up_to
up-to-shift f g e i zero = refl
up-to-shift f g e i (suc k) = rw (e i, up-to-shift f g e (suc i) k)

cut-numbered : (ls names : List ℕ) → cut ls names ≡ up_to (name_no ls names) 0 (length ls)
unfolding cut up_to name_no offset_of
cut-numbered [] names = refl
cut-numbered (l ∷ ls) names =
    ap (λ (ns : List Name). take l names ∷ ns) (cut-numbered ls (drop l names) ∙ sym (up-to-shift (name_no (l ∷ ls) names) (name_no ls (drop l names)) (name-cons l ls names) 0 (length ls)))

-- ---- Places.

facility-places : (s : List ℕ) (i k : ℕ) → map (λ (f : FacilityPlaces). f.name) (up_to (facility_places_no s) i k) ≡ up_to (λ n. place_no s (6 * n)) i k
unfolding up_to facility_places_no
facility-places s i zero = refl
facility-places s i (suc k) = ap (λ (ps : List Position). place_no s (6 * i) ∷ ps) (facility-places s (suc i) k)

state-places : (s : List ℕ) (i k : ℕ) → map (λ (f : StatePlaces). f.at) (up_to (state_places_no s) i k) ≡ up_to (λ n. place_no s (2 * n)) i k
unfolding up_to state_places_no
state-places s i zero = refl
state-places s i (suc k) = ap (λ (ps : List Position). place_no s (2 * i) ∷ ps) (state-places s (suc i) k)

places-joined : (q : Beside) → name_places (places_in q) ≡ places_of q.facilities q.operations q.states
unfolding places_in places_of
places-joined q =
    rw (facility-places q.facilities 0 (length q.facilities / 12), state-places q.states 0 (length q.states / 4))

-- ---- All of a description.

module _ (x : Sections) (q : Beside) where
  abbrev lengths : List ℕ
  lengths = lengths_of x.facilities x.operations x.states

  names-whole : name_faults [] (up_to (name_no lengths x.names) 0 (length lengths)) (places_of q.facilities q.operations q.states)
      ≡ name_faults [] (names_of (noted_description x q)) (name_places (places_in q))
  names-whole = ap₂ (name_faults []) (sym (cut-described x q ∙ cut-numbered lengths x.names)) (sym (places-joined q))

  pub faults-whole : {fs os ss ns fp op sp : List ℕ} → fs ≡ x.facilities → os ≡ x.operations → ss ≡ x.states → ns ≡ x.names
      → fp ≡ q.facilities → op ≡ q.operations → sp ≡ q.states
      → least (name_faults [] (up_to (name_no (lengths_of fs os ss) ns) 0 (length (lengths_of fs os ss))) (places_of fp op sp))
      ≡ least (name_faults [] (names_of (noted_description x q)) (name_places (places_in q)))
  faults-whole a b c d e f g = rw (a, b, c, d, e, f, g) (ap least names-whole)
