-- The facilities declared so far, as the working array holds them.
use Rattle.std.specs.Prelude.{List, [], ◌∷◌, ◌++◌, map, ◌≡◌, ℕ, suc, ◌+◌, ◌%◌, ◌<◌, ◌≤◌, length}
use Rattle.parse_step.specs.declared.State.{State}
use Rattle.language.specs.DescribeText.{facilities_of, facility_declared, facility_nodes, function_size, function_sizes, places_of}
use Rattle.language.specs.Encode.{facility_records}
use Rattle.language.specs.Layout.{store_size_of}
use Rattle.language.specs.Tree.{Declaration}
use Rattle.judge_records.specs.Noted.{facility_beside_bytes}
use Rattle.parse_tables.specs.declared.facilities.Declared.{Declared}
use Rattle.parse_tables.specs.declared.Table.TheVariants as T
use Rattle.parse_tables.specs.Facilities.{facility_said, places_said}
use Rattle.parse_tables.specs.Names.{facility_names}
use Rattle.parse_tables.specs.Rows.{rows}
use Rattle.text_words.specs.declared.Word.{Word}
use Rattle.parse_array.specs.Held.{Held, held, other_in, with_nodes}
use Rattle.parse_array.specs.Layout.{most_nodes}
use Rattle.parse_array.specs.Names.{letters}
use Rattle.parse_facilities.specs.declared.Progress.{Progress}

-- The bytes of their places.
unfoldable pub besides : ℕ → List Declaration → List ℕ
besides base [] = []
besides base (d ∷ ds) = facility_beside_bytes (facility_declared base d) (places_of d.at d.function d.extent) ++ besides (base + function_size d.function) ds

-- No expression yet.
abbrev pub none_held : List ℕ → Held
none_held other = record { nodes = []; places = []; other = other }

-- The tables of facilities hold ds, and the next one's place in the store ends in the bits of `place`.
pub record Tabled (text : List ℕ) (ds : List Declaration) (place n : ℕ) (work : List ℕ) : Type 0 where
  pub known : n ≡ length ds
  pub records : rows T.Facilities n work ≡ facility_records 0 (facilities_of 0 ds)
  pub places : rows T.FacilityPlaces n work ≡ besides 0 ds
  pub names : facility_names text work n ≡ map (λ d. d.name) ds
  pub store : place ≡ store_size_of (facilities_of 0 ds) % 65536

-- The expressions hold those of ds.
pub record Expressed (ds : List Declaration) (n : ℕ) (work : List ℕ) : Type 0 where
  pub nodes : n ≡ function_sizes ds
  pub few : n ≤ most_nodes
  pub records : held n work ≡ with_nodes (none_held (other_in work)) (facility_nodes [] 0 ds)

pub record Listed (text : List ℕ) (ds : List Declaration) (place : ℕ) (s : State) (work : List ℕ) : Type 0 where
  pub counted : s.facilities ≡ s.known
  pub tabled : Tabled text ds place s.known work
  pub expressed : Expressed ds s.nodes work

-- ds are listed; d has been read and counted, and its expression written.
pub record Awaiting (text : List ℕ) (ds : List Declaration) (d : Declaration) (place : ℕ) (s : State) (work : List ℕ) : Type 0 where
  pub counted : s.facilities ≡ suc s.known
  pub room : s.known < 256
  pub tabled : Tabled text ds place s.known work
  pub expressed : Expressed (ds ++ d ∷ []) s.nodes work

-- The code's declaration says what d does; the number of d's first expression record is `base`.
pub record Says (text : List ℕ) (base : ℕ) (d : Declaration) (x : Declared) : Type 0 where
  pub facility : facility_declared base d ≡ facility_said d.name x
  pub places : places_of d.at d.function d.extent ≡ places_said x
  pub name : d.name ≡ letters text x.at.place x.size
  pub length : length d.name ≡ x.size
  pub near : x.at.place < 65536
  pub short : x.size < 65536

-- One facility known more.
abbrev pub known_state : State → State
known_state s = record { facilities = s.facilities; operations = s.operations; states = s.states; counted = s.counted; nesting = s.nesting; nodes = s.nodes; actions = s.actions; known = suc s.known }

-- It was added.
pub record Added (text : List ℕ) (ds : List Declaration) (next : Word) (s : State) (work' : List ℕ) (r : Progress) : Type 0 where
  pub word : r.reached.next ≡ next
  pub state : r.reached.state ≡ known_state s
  pub listed : Listed text ds r.place r.reached.state work'

abbrev pub Adds : Word → State → ℕ → Declared → List ℕ → List ℕ → Progress → Type 0
Adds next s place x work work' r =
    (text : List ℕ) (ds : List Declaration) (d : Declaration) → Awaiting text ds d place s work → Says text (function_sizes ds) d x
    → Added text (ds ++ d ∷ []) next s work' r
