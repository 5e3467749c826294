-- What the code says of a declaration; and declarations without an expression.
use mathlib.Core.List.{List, [], ◌∷◌, ◌++◌, append-nil}
use mathlib.Core.Path.{◌≡◌, refl, sym, ap, ◌∙◌}
use Prim.Native.Nat.{ℕ, suc, ◌+◌, ◌<◌, ◌≤◌}
use native.Mathlib.Omega.{arith}
use lib.ListN.{drop, length, length-drop, length-map, take}
use lib.Seq.{length-take-le}
use Rattle.parse_step.specs.declared.State.{State}
use Rattle.parse_step.specs.Course.{Seen}
use Rattle.parse_bounds.specs.Extents.{Sized, bits_left, bits_right, words_left, words_right}
use Rattle.image_sections.specs.declared.facilities.FacilityKind.{FacilityKind}
use Rattle.language.specs.Characters.{folded}
use Rattle.language.specs.Describe.{Noted}
use Rattle.language.specs.DescribeText.{equals_place, facility_nodes, function_nodes, function_number, function_size, function_sizes, places_of}
use Rattle.language.specs.Description.{nowhere}
use Rattle.language.specs.Naming.{Scope}
use Rattle.language.specs.Tree as T
use Rattle.language.specs.Tree.{Declaration, Extent, Function}
use Rattle.language.specs.Words.{Position}
use Rattle.parse_tables.specs.declared.extents.Extent as C
use Rattle.parse_tables.specs.declared.facilities.Declared.{Declared}
use Rattle.text_words.specs.declared.Position as P
use Rattle.text_words.specs.declared.Word.{Word}
use Rattle.text_words.specs.Meaning.{positioned}
use Rattle.parse_array.specs.Held.{other_in, with_nodes}
use Rattle.parse_array.specs.Names.{letters}
use Rattle.parse_facilities.proofs.Appended.{names_of, nodes-last, scope_of, size-last}
use Rattle.parse_facilities.specs.Listed.{Awaiting, Expressed, Listed, Says, none_held}
use Rattle.parse_facilities.specs.Specs.{declaration_of, more_state}

-- A function that is no expression.
abbrev pub Bare : Function → Type 0
Bare T.unspecified = Unit {0}
Bare T.from_input = Unit {0}
Bare (T.given p e) = ⊥

bare-size : (f : Function) → Bare f → function_size f ≡ 0
bare-size T.unspecified h = refl
bare-size T.from_input h = refl
bare-size (T.given p e) h = absurd h

bare-number : (base : ℕ) (f : Function) → Bare f → function_number base f ≡ 0
bare-number base T.unspecified h = refl
bare-number base T.from_input h = refl
bare-number base (T.given p e) h = absurd h

bare-place : (f : Function) → Bare f → equals_place f ≡ nowhere
bare-place T.unspecified h = refl
bare-place T.from_input h = refl
bare-place (T.given p e) h = absurd h

bare-nodes : (f : Function) → Bare f → (sc : Scope) (n : ℕ) → function_nodes sc n f ≡ []
bare-nodes T.unspecified h sc n = refl
bare-nodes T.from_input h sc n = refl
bare-nodes (T.given p e) h sc n = absurd h

-- The places of a declaration, by its extent's.
places-by : (p : Position) (f : Function) (x : Extent)
    → places_of p f x ≡ record { name = p; words_first = words_left x; words_last = words_right x; bits_first = bits_left x; bits_last = bits_right x; equals = equals_place f }
places-by p f T.single = refl
places-by p f (T.row x) = refl
places-by p f (T.table x y) = refl

pub letters-length : (text : List ℕ) (place size : ℕ) → place + size ≤ length text → length (letters text place size) ≡ size
unfolding letters
letters-length text place size h = length-map (take size (drop place text)) folded ∙ length-take-le size (drop place text) (omega (arith, length-drop place text))

abbrev pub said_of : FacilityKind → Word → C.Extent → ℕ → P.Position → Declared
said_of k w e n p = record { kind = k; at = w.at; size = w.size; extent = e; expression = n; equals = p }

-- What the code says of a declaration, by what it says of the function.
pub said : (text : List ℕ) (k : FacilityKind) (w : Word) (x : Extent) (f : Function) (base : ℕ) {e : C.Extent} {n : ℕ} {p : P.Position} → Seen text w → length text < 65536 → Sized x e
    → function_number base f ≡ n → equals_place f ≡ positioned p → Says text base (declaration_of text k w x f) (said_of k w e n p)
said text k w x f base z l g i q = record {
  facility = rw (g.dimensions, g.words, g.bits, i);
  places = places-by (positioned w.at) f x ∙ rw (g.words_from, g.words_to, g.bits_from, g.bits_to, q);
  name = refl;
  length = letters-length text w.at.place w.size z.next.within;
  near = omega (arith, z.next.within);
  short = omega (arith, z.next.within);
}

module _ (text : List ℕ) (k : FacilityKind) (w : Word) (x : Extent) (f : Function) (h : Bare f) where
  pub bare-said : (base : ℕ) {e : C.Extent} {p : P.Position} → Seen text w → length text < 65536 → Sized x e → positioned p ≡ nowhere → Says text base (declaration_of text k w x f) (said_of k w e 0 p)
  bare-said base z l g q = said text k w x f base z l g (bare-number base f h) (bare-place f h ∙ sym q)

  none_more : (ds : List Declaration) → facility_nodes [] 0 ds ++ function_nodes (scope_of (names_of ds)) (0 + function_sizes ds) f ≡ facility_nodes [] 0 ds
  none_more ds = ap (λ (l : List Noted). facility_nodes [] 0 ds ++ l) (bare-nodes f h (scope_of (names_of ds)) (0 + function_sizes ds)) ∙ append-nil (facility_nodes [] 0 ds)

  expressed-more : (ds : List Declaration) (n : ℕ) (work : List ℕ) → Expressed ds n work → Expressed (ds ++ declaration_of text k w x f ∷ []) n work
  expressed-more ds n work e = record {
    nodes = omega (arith, e.nodes, size-last ds (declaration_of text k w x f), bare-size f h);
    few = e.few;
    records = e.records ∙ ap (with_nodes (none_held (other_in work))) (sym (nodes-last [] 0 ds (declaration_of text k w x f) ∙ none_more ds));
  }

  pub bare-awaits : (ds : List Declaration) (place : ℕ) (s : State) (work : List ℕ) → Listed text ds place s work → s.facilities < 256 → Awaiting text ds (declaration_of text k w x f) place (more_state s) work
  bare-awaits ds place s work g r = record {
    counted = ap suc g.counted;
    room = omega (arith, g.counted, r);
    tabled = g.tabled;
    expressed = expressed-more ds s.nodes work g.expressed;
  }
