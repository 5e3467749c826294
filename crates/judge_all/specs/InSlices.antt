-- What slices show of a description and its places, as far as facilities need it.
use Rattle.std.specs.Prelude.{true, List, [], ◌≡◌, ℕ, ◌/◌, ◌<◌, drop, length, take}
use Rattle.image_sections.specs.Declarations.{OperationRead, facility_in, name_length_in, run_meant}
use Rattle.image_sections.specs.declared.operations.OperationRecord.{OperationRecord}
use Rattle.language.specs.ActionRules.{operation_judged}
use Rattle.language.specs.Decode.{action_of, names_length}
use Rattle.language.specs.Description.{Description, FacilityPlaces, Places, action_at, action_place, facility_at, facility_place, is_computed, operation_at, state_at}
use Rattle.language.specs.Encode.{facility_size, state_size}
use Rattle.language.specs.Expressions.{terminal_below, terminal_judged}
use Rattle.judge_records.specs.Read.{FacilityRead, facility_meant, place_of}
use Rattle.judge_records.specs.declared.facilities.Facility.{Facility}
use Rattle.judge_verdicts.specs.Meaning.{recalled, seen}
use Rattle.judge_terms.specs.Shown.{Records, Shown, worked}

abbrev pub facility_places_of : List ℕ → ℕ → FacilityPlaces
facility_places_of places n = record {
  name = place_of 6 places n 0;
  words_first = place_of 6 places n 1;
  words_last = place_of 6 places n 2;
  bits_first = place_of 6 places n 3;
  bits_last = place_of 6 places n 4;
  equals = place_of 6 places n 5;
}

pub record Declared (facs exprs marks places : List ℕ) (d : Description) (p : Places) : Type 0 where
  pub records : Records exprs places d p
  pub count : length d.facilities ≡ length facs / facility_size
  pub facility : (n : ℕ) → n < length facs / facility_size → (f : Facility) → FacilityRead facs marks n f → facility_meant (facility_at d n).name f ≡ facility_at d n
  pub kind : (n : ℕ) → (facility_at d n).kind ≡ (facility_in facs n []).kind
  pub place : (n : ℕ) → facility_place p n ≡ facility_places_of marks n

-- The computed terminals among the first k facilities are judged, and their verdicts kept.
pub record Remembered (facs memo : List ℕ) (k : ℕ) (d : Description) (p : Places) : Type 0 where
  pub terminal : (n : ℕ) → n < 256 → n < k → is_computed (facility_in facs n []).kind ≡ true → recalled memo n ≡ seen (worked (terminal_judged d p n))

-- With actions, states' names and operations; all computed terminals are judged, and what is noted of other expressions is right.
pub record Acting (facs exprs marks places memo acts beside states labels ops : List ℕ) (d : Description) (p : Places) : Type 0 where
  pub declared : Declared facs exprs marks places d p
  pub shown : Shown facs exprs marks places memo (length facs / facility_size) d p (terminal_below d p (length facs / facility_size))
  pub action : (n : ℕ) → action_at d n ≡ action_of acts n
  pub place : (n : ℕ) → action_place p n ≡ place_of 1 beside n 0
  pub label : (n : ℕ) → (state_at d n).name ≡ take (name_length_in state_size 0 states n) (drop (names_length n 0 state_size states) labels)
  pub body : (n : ℕ) (x : OperationRecord) → OperationRead ops n x → run_meant x.body ≡ (operation_at d n).body

-- The first k operations are judged, and their verdicts kept.
pub record Performed (kept : List ℕ) (k : ℕ) (d : Description) (p : Places) : Type 0 where
  pub operation : (o : ℕ) → o < 256 → o < k → recalled kept o ≡ seen (worked (operation_judged d p o))
