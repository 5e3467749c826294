-- A facility added to those listed.
use mathlib.Core.List.{List, [], ◌∷◌, ◌++◌, map}
use mathlib.Core.Path.{◌≡◌, refl, sym, ap, ◌∙◌, subst}
use Prim.Native.Nat.{ℕ, suc, ◌+◌, ◌*◌, ◌%◌, ◌<◌, ◌≤◌}
use native.Mathlib.Nat.{zero-add}
use native.Mathlib.Omega.{arith}
use lib.ListN.{drop, length, length-drop, length-take, take}
use lib.Seq.{length-take-le, take-take}
use Rattle.parse_step.specs.declared.State.{State}
use Rattle.language.specs.Describe.{Noted}
use Rattle.language.specs.DescribeText.{facilities_of, facility_declared, facility_nodes, function_sizes}
use Rattle.language.specs.Encode.{facility_records, node_size}
use Rattle.language.specs.Layout.{facility_bytes, store_size_of}
use Rattle.language.specs.Tree.{Declaration, Name}
use Rattle.parse_tables.proofs.NamesGrown.{names-behind, names-few}
use Rattle.parse_tables.specs.declared.facilities.Declared.{Declared}
use Rattle.parse_tables.specs.declared.Table.TheVariants as T
use Rattle.parse_tables.specs.Facilities.{FacilityAdded, facility_said}
use Rattle.parse_tables.specs.Names.{facility_names, names_of}
use Rattle.parse_tables.specs.Rows.{expressions, rows}
use Rattle.text_words.specs.declared.Word.{Word}
use Rattle.parse_array.proofs.Regions.{part_of, same-held}
use Rattle.parse_array.specs.Held.{Held, held, other_in, with_nodes}
use Rattle.parse_array.specs.Layout.{facility_names_from, most_nodes, other_from, places_from, work_size}
use Rattle.parse_facilities.proofs.Appended.{besides-last, facilities-last, length_last, names-last, records-last, store-last}
use Rattle.parse_facilities.specs.Listed.{Added, Awaiting, Listed, Says, besides, known_state, none_held}

-- ---- Expressions stay while the tables change.

-- What the array holds of n expressions lies before the tables.
front-held : (n : ℕ) (w w' : List ℕ) → length w ≡ work_size → n ≤ most_nodes → expressions w' ≡ expressions w
    → (ns : List Noted) → held n w ≡ with_nodes (none_held (other_in w)) ns → held n w' ≡ with_nodes (none_held (other_in w')) ns
unfolding held with_nodes expressions
front-held n w w' l h e ns g = same-held (first ∙ ap (λ (x : Held). x.nodes) g) (second ∙ ap (λ (x : Held). x.places) g) refl
  where
    first : take (node_size * n) w' ≡ take (node_size * n) w
    first = sym (take-take (node_size * n) other_from w' (omega arith)) ∙ ap (take (node_size * n)) e ∙ take-take (node_size * n) other_from w (omega arith)

    front : (v : List ℕ) → other_from ≤ length v → take (6 * n) (drop places_from v) ≡ drop places_from (take (places_from + 6 * n) (take other_from v))
    front v m = part_of places_from (6 * n) v (omega arith) ∙ ap (drop places_from) (sym (take-take (places_from + 6 * n) other_from v (omega arith)))

    second : take (6 * n) (drop places_from w') ≡ take (6 * n) (drop places_from w)
    second = front w' (omega (arith, length-take other_from w, length-take other_from w', ap length e)) ∙ ap (λ (v : List ℕ). drop places_from (take (places_from + 6 * n) v)) e ∙ sym (front w (omega arith))

-- ---- The tables.

mod-first : (m n : ℕ) → (m % 65536 + n) % 65536 ≡ (m + n) % 65536
mod-first m n = omega arith

module _ (text : List ℕ) (ds : List Declaration) (d : Declaration) (place : ℕ) (s : State) (x : Declared) (w w' : List ℕ) (a : Awaiting text ds d place s w) (y : Says text (function_sizes ds) d x)
    (f : FacilityAdded s.known place x w w') where
  n+1 : suc s.known ≡ s.known + 1
  n+1 = omega arith

  records : rows T.Facilities (suc s.known) w' ≡ facility_records 0 (facilities_of 0 (ds ++ d ∷ []))
  records =
      ap (λ (n : ℕ). rows T.Facilities n w') n+1 ∙ f.records d.name (store_size_of (facilities_of 0 ds)) y.length a.tabled.store
      ∙ rw (← y.facility, a.tabled.records)
      (sym (ap (facility_records 0) (facilities-last 0 ds d) ∙ records-last 0 (facilities_of 0 ds) (facility_declared (0 + function_sizes ds) d)
      ∙ rw (zero-add (function_sizes ds), zero-add (store_size_of (facilities_of 0 ds)))))

  places : rows T.FacilityPlaces (suc s.known) w' ≡ besides 0 (ds ++ d ∷ [])
  places =
      ap (λ (n : ℕ). rows T.FacilityPlaces n w') n+1 ∙ f.places d.name ∙ rw (← y.facility, ← y.places, a.tabled.places) (sym (besides-last 0 ds d ∙ rw (zero-add (function_sizes ds))))

  row-length : length (rows T.FacilityNames s.known w) ≡ 4 * s.known
  unfolding rows
  row-length = length-take-le (4 * s.known) (drop facility_names_from w) (omega (arith, length-drop facility_names_from w, f.whole, a.room))

  names : facility_names text w' (suc s.known) ≡ map (λ (v : Declaration). v.name) (ds ++ d ∷ [])
  names =
      names-few text T.FacilityNames w' (suc s.known) (omega (arith, a.room))
      ∙ ap (λ (n : ℕ). names_of text (rows T.FacilityNames n w') n) n+1
      ∙ ap (λ (v : List ℕ). names_of text v (s.known + 1)) f.names
      ∙ names-behind text (rows T.FacilityNames s.known w) s.known x.at.place x.size row-length y.near y.short
      ∙ rw (← names-few text T.FacilityNames w s.known (omega (arith, a.room)), a.tabled.names, ← y.name) (sym (names-last ds d))

  after : {p : ℕ} → ((name : Name) → p ≡ (place + facility_bytes (facility_said name x)) % 65536) → p ≡ store_size_of (facilities_of 0 (ds ++ d ∷ [])) % 65536
  after {p} g =
      let e : store_size_of (facilities_of 0 (ds ++ d ∷ [])) ≡ store_size_of (facilities_of 0 ds) + facility_bytes (facility_said d.name x) =
      ap store_size_of (facilities-last 0 ds d) ∙ store-last (facilities_of 0 ds) (facility_declared (0 + function_sizes ds) d) ∙ rw (zero-add (function_sizes ds), y.facility) in
      g d.name ∙ rw (e, a.tabled.store) (mod-first (store_size_of (facilities_of 0 ds)) (facility_bytes (facility_said d.name x)))

  listed : {p : ℕ} → ((name : Name) → p ≡ (place + facility_bytes (facility_said name x)) % 65536) → Listed text (ds ++ d ∷ []) p (known_state s) w'
  listed g = record {
    counted = a.counted;
    tabled = record { known = ap suc a.tabled.known ∙ sym (length_last ds d); records = records; places = places; names = names; store = after g };
    expressed = record {
      nodes = a.expressed.nodes;
      few = a.expressed.few;
      records = front-held s.nodes w w' f.whole a.expressed.few f.kept.front (facility_nodes [] 0 (ds ++ d ∷ [])) a.expressed.records;
    };
  }

pub added : {next : Word} {s s' : State} {place after : ℕ} {x : Declared} {w w' : List ℕ} → (s.known < 256 → FacilityAdded s.known place x w w') → (s.known < 256 → s' ≡ known_state s)
    → ((name : Name) → after ≡ (place + facility_bytes (facility_said name x)) % 65536) → (text : List ℕ) (ds : List Declaration) (d : Declaration) → Awaiting text ds d place s w → Says text (function_sizes ds) d x
    → Added text (ds ++ d ∷ []) next s w' (record { reached = record { next = next; state = s' }; place = after })
added {next} {s} {s'} {place} {after} {x} {w} {w'} f e g text ds d a y = record {
  word = refl;
  state = e a.room;
  listed = subst (λ (q : State). Listed text (ds ++ d ∷ []) after q w') (sym (e a.room)) (listed text ds d place s x w w' a y (f a.room) g);
}
