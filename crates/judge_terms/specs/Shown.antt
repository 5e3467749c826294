-- What slices show of a description and its places, as far as expressions need it.
use Rattle.std.specs.Prelude.{true, false, List, [], ◌≡◌, ℕ, ◌+◌, ◌*◌, ◌<◌, ◌≤◌, get_or, length}
use Rattle.image_sections.specs.Declarations.{facility_in}
use Rattle.language.specs.Decode.{node_of}
use Rattle.language.specs.Description as D
use Rattle.language.specs.Description.{Description, NodePlaces, Places, facility_at, is_computed, node_at, node_place}
use Rattle.language.specs.Expressions.{judge_at, left_at, own_work}
use Rattle.language.specs.Judging.{Judged, faulty, fine, given, worth}
use Rattle.image_records.specs.References.{widened_node}
use Rattle.judge_records.specs.Noted.{large_no}
use Rattle.judge_records.specs.Read.{FacilityRead, facility_meant, place_of}
use Rattle.judge_records.specs.declared.facilities.Facility.{Facility}
use Rattle.judge_verdicts.specs.Meaning.{Verdict, recalled, seen}
use Rattle.judge_verdicts.specs.Noted.{is_reference, noted_from, record_in, verdict_in}

-- Record n with the marks beside it.
unfoldable pub node_noted : List ℕ → List ℕ → ℕ → D.Node
node_noted exprs places n = widened_node (large_no places (3 * n + 1)) (large_no places (3 * n + 2)) (node_of exprs n)

abbrev pub places_noted : List ℕ → ℕ → NodePlaces
places_noted places n = record { at = place_of 3 places n 0; first = place_of 3 places n 1; last = place_of 3 places n 2 }

-- The records of expressions, and their places.
pub record Records (exprs places : List ℕ) (d : Description) (p : Places) : Type 0 where
  pub nodes : (n : ℕ) → node_at d n ≡ node_noted exprs places n
  pub places_of : (n : ℕ) → node_place p n ≡ places_noted places n

-- Of an expression that is named elsewhere only faults and work count.
abbrev pub worked : Judged → Judged
worked (fine w) = worth 1 0 w.work
worked (faulty f fs) = faulty f fs

-- A reference that is an operand has work of its own.
abbrev pub with_own : Judged → Judged
with_own j = given j (λ w. worth w.length w.arms (own_work + w.work))

-- A number that notes a record: a reference as the left side of a store, and any other as it is judged.
pub record NotedRight (d : Description) (p : Places) (terminals : ℕ → Judged) (known e : ℕ) : Type 0 where
  pub left : is_reference e ≡ true → verdict_in e ≡ seen (left_at d p terminals known (record_in e))
  pub operand : is_reference e ≡ true → with_own (left_at d p terminals known (record_in e)) ≡ judge_at d p terminals known (record_in e)
  pub other : is_reference e ≡ false → verdict_in e ≡ seen (judge_at d p terminals known (record_in e))

-- With the facilities that may be named, of which the computed ones are judged already; and records that are noted.
pub record Shown (facs exprs marks places memo : List ℕ) (known : ℕ) (d : Description) (p : Places) (terminals : ℕ → Judged) : Type 0 where
  pub records : Records exprs places d p
  pub facility : (n : ℕ) → n < known → (f : Facility) → FacilityRead facs marks n f → facility_meant (facility_at d n).name f ≡ facility_at d n
  pub kind : (n : ℕ) → (facility_at d n).kind ≡ (facility_in facs n []).kind
  pub terminal : (n : ℕ) → n < 256 → n < known → is_computed (facility_in facs n []).kind ≡ true → recalled memo n ≡ seen (worked (terminals n))
  pub noted : (i : ℕ) → noted_from ≤ i → i < length memo → NotedRight d p terminals known (get_or memo i 0)

-- The verdict that every description with these slices calls for.
abbrev pub Judges : List ℕ → List ℕ → List ℕ → List ℕ → List ℕ → ℕ → (Description → Places → (ℕ → Judged) → Judged) → Verdict → Type 0
Judges facs exprs marks places memo known j r =
    (d : Description) (p : Places) (t : ℕ → Judged) → Shown facs exprs marks places memo known d p t → r ≡ seen (j d p t)

-- A number that notes a record right for every description with these slices.
abbrev pub NotesRight : List ℕ → List ℕ → List ℕ → List ℕ → List ℕ → ℕ → ℕ → Type 0
NotesRight facs exprs marks places memo known e =
    (d : Description) (p : Places) (t : ℕ → Judged) → Shown facs exprs marks places memo known d p t → NotedRight d p t known e
