-- Facilities, operations and states of a tidy text have room for what they say, and so have the places of their words.
use mathlib.Core.Bool.{Bool, true, false, cond, true≢false}
use mathlib.Core.List.{List, [], ◌∷◌, ◌++◌, map}
use mathlib.Core.Option.{Option, none, some}
use mathlib.Core.Path.{◌≡◌, refl}
use Prim.Native.Nat.{ℕ, zero, suc, ◌+◌, ◌^◌, ◌<◌, ◌≤◌}
use native.Mathlib.Omega.{arith}
use borrow.Author.Tests.{leb-true, ltb-true}
use lib.Dec.{eqb, leb, ltb}
use lib.ListN.{get_or, length}
use Rattle.image_sections.proofs.DeclarationBack.{ValueFits}
use Rattle.language.specs.Canonical.{is_capital, name_parts, name_right}
use Rattle.language.specs.Describe.{actions_in, bound, constant_size}
use Rattle.language.specs.DescribeText.{bit_bounds, dimensions_of, equals_place, expressions_of_state, facilities_of, function_number, function_size, function_sizes, label_of, operation_records, operations_of, places_of, state_constant, states_of, value_number, value_place, value_size, word_bounds}
use Rattle.language.specs.Description as D
use Rattle.language.specs.Description.{Facility, is_computed}
use Rattle.language.specs.Image.{ConstantRight}
use Rattle.language.specs.Scan.{reserved_kind}
use Rattle.language.specs.Ceilings.{longest, longest_name}
use Rattle.language.specs.Tree as T
use Rattle.language.specs.Tree.{Declaration, Extent, Function, Kind, Label, Name, Operation, State, StateValue}
use Rattle.language.specs.Value.{Value, value}
use Rattle.language.specs.Words.{Constant, Position}
use Rattle.about_rules.specs.InOrder.{state_expressions}
use Rattle.about_rules.specs.Runs.{state_records}
use Rattle.about_rules.specs.Tidy.{DeclarationsTidy, FunctionTidy, LabelTidy, OperationsTidy, StatesTidy, Suits}
use Rattle.image_records.proofs.NodeBack.{Half}
use Rattle.about_running.specs.LegalForm.{left-of, right_of}
use Rattle.about_images.specs.Back.{FacilityInRange, OperationInRange, StateInRange}
use Rattle.parse_held.specs.NearTexts.{DeclarationsNear, ExtentNear, FunctionNear, OperationsNear, StatesNear, ValueNear}
use Rattle.parse_held.specs.Standing.{FacilityNear, Marked, Near, narrow_facility}

-- ---- All of a list.

abbrev pub Each : {A : Type 0} → (A → Type 0) → List A → Type 0
Each P [] = Unit {0}
Each P (x ∷ xs) = P x × Each P xs

pub each_at : {A : Type 0} (P : A → Type 0) (z : A) (xs : List A) → Each P xs → (n : ℕ) → n < length xs → P (get_or xs n z)
each_at P z [] f n h = absurd (omega arith)
each_at P z (x ∷ xs) f zero h = f.0
each_at P z (x ∷ xs) f (suc n) h = each_at P z xs f.1 n (omega arith)

pub each_append : {A : Type 0} (P : A → Type 0) (xs ys : List A) → Each P xs → Each P ys → Each P (xs ++ ys)
each_append P [] ys f g = g
each_append P (x ∷ xs) ys f g = (f.0, each_append P xs ys f.1 g)

-- ---- Names.

name-short : (n : Name) → name_right n ≡ true → length n ≤ 132
unfolding name_right longest_name
name-short [] e = omega arith
name-short (b ∷ n) e =
    leb-true (length (b ∷ n)) 132 (left-of (leb (length (b ∷ n)) 132) (eqb (reserved_kind (b ∷ n)) 0) (right_of (name_parts n) _ (right_of (is_capital b) _ e)))

label-short : (l : Option Label) (v : Option StateValue) → LabelTidy l v → length (label_of l) ≤ 132
label-short none v h = omega arith
label-short (some l) none h = name-short l.name h
label-short (some l) (some v) h = name-short l.name h.0

-- ---- Facilities.

pub record DeclarationFits (d : Declaration) : Type 0 where
  pub name : name_right d.name ≡ true
  pub suits : Suits d.kind d.extent d.function
  pub tidy : FunctionTidy d.function
  pub at : Near d.at
  pub extent : ExtentNear d.extent
  pub function : FunctionNear d.function

pub declarations-fit : (r : ℕ) (ds : List Declaration) → DeclarationsTidy r ds → DeclarationsNear ds → Each DeclarationFits ds
declarations-fit r [] t n = tt
declarations-fit r (d ∷ ds) t n = (
  record { name = t.0.name-right; suits = t.0.suits; tidy = t.0.function-tidy; at = n.0.0; extent = n.0.1.0; function = n.0.1.1 },
  declarations-fit r ds t.1 n.1,
)

pub record FacilityFit (f : Facility) : Type 0 where
  pub range : FacilityInRange (narrow_facility f)
  pub words : Marked f.words
  pub bits : Marked f.bits

few-dimensions : (x : Extent) → dimensions_of x < 256
few-dimensions T.single = omega arith
few-dimensions (T.row x) = omega arith
few-dimensions (T.table x y) = omega arith

bounds-marked : (x : Extent) → Marked (word_bounds x) × Marked (bit_bounds x)
unfolding bound
bounds-marked T.single = ((omega arith, omega arith), (omega arith, omega arith))
bounds-marked (T.row x) = ((omega arith, omega arith), (omega arith, omega arith))
bounds-marked (T.table x y) = ((omega arith, omega arith), (omega arith, omega arith))

function-half : (base : ℕ) (f : Function) → base + function_size f ≤ 65535 → Half (function_number base f)
function-half base T.unspecified h = omega arith
function-half base T.from_input h = omega arith
function-half base (T.given p e) h = omega arith

no_number : (base : ℕ) (k : Kind) (x : Extent) (f : Function) → Suits k x f → is_computed k ≡ false → function_number base f ≡ 0
no_number base k x T.unspecified h e = refl
no_number base k x T.from_input h e = refl
no_number base T.register x (T.given p g) h e = absurd h
no_number base T.sequencing x (T.given p g) h e = absurd h
no_number base T.memory x (T.given p g) h e = absurd h
no_number base T.plain x (T.given p g) h e = absurd h
no_number base T.input x (T.given p g) h e = absurd h
no_number base T.computed x (T.given p g) h e = absurd (true≢false e)

pub facilities-fit : (base : ℕ) (ds : List Declaration) → Each DeclarationFits ds → base + function_sizes ds ≤ 65535 → Each FacilityFit (facilities_of base ds)
unfolding facilities_of function_sizes
facilities-fit base [] f h = tt
facilities-fit base (d ∷ ds) f h =
    let g = f.0 in
    let m = bounds-marked d.extent in (
      record {
        range = record {
          name = omega (arith, name-short d.name g.name);
          fits = record {
            dimensions = few-dimensions d.extent;
            words = (omega arith, omega arith);
            bits = (omega arith, omega arith);
            expression = function-half base d.function (omega arith);
            plain = no_number base d.kind d.extent d.function g.suits;
          };
        };
        words = m.0;
        bits = m.1;
      },
      facilities-fit (base + function_size d.function) ds f.1 (omega arith),
    )

equals-near : (f : Function) → FunctionNear f → Near (equals_place f)
equals-near T.unspecified h = omega arith
equals-near T.from_input h = omega arith
equals-near (T.given p e) h = h.0

places-near : (p : Position) (f : Function) (x : Extent) → Near p → FunctionNear f → ExtentNear x → FacilityNear (places_of p f x)
places-near p f T.single h g e = record { name = h; words = (omega arith, omega arith); bits = (omega arith, omega arith); equals = equals-near f g }
places-near p f (T.row x) h g e = record { name = h; words = (omega arith, omega arith); bits = e; equals = equals-near f g }
places-near p f (T.table x y) h g e = record { name = h; words = e.0; bits = e.1; equals = equals-near f g }

pub facility-places : (ds : List Declaration) → Each DeclarationFits ds → Each FacilityNear (map (λ d. places_of d.at d.function d.extent) ds)
facility-places [] f = tt
facility-places (d ∷ ds) f = (places-near d.at d.function d.extent f.0.at f.0.function f.0.extent, facility-places ds f.1)

pub facility-names : (base : ℕ) (ds : List Declaration) → Each DeclarationFits ds → Each (λ (f : Facility). length f.name ≤ 132) (facilities_of base ds)
unfolding facilities_of
facility-names base [] f = tt
facility-names base (d ∷ ds) f = (name-short d.name f.0.name, facility-names (base + function_size d.function) ds f.1)

-- ---- Operations.

pub operations-fit : (a : ℕ) (os : List Operation) → OperationsTidy os → a + operation_records os ≤ 65535 → Each OperationInRange (operations_of a os)
unfolding operations_of operation_records
operations-fit a [] t h = tt
operations-fit a (o ∷ os) t h =
    (record { name = omega (arith, name-short o.name t.0.0); first = omega arith; count = omega arith }, operations-fit (a + actions_in o.body) os t.1 (omega arith))

pub operation-places : (text : List ℕ) (os : List Operation) → OperationsNear text os → Each Near (map (λ o. o.at) os)
operation-places text [] n = tt
operation-places text (o ∷ os) n = (n.0.0, operation-places text os n.1)

pub operation-names : (a : ℕ) (os : List Operation) → OperationsTidy os → Each (λ (o : D.Operation). length o.name ≤ 132) (operations_of a os)
unfolding operations_of
operation-names a [] t = tt
operation-names a (o ∷ os) t = (name-short o.name t.0.0, operation-names (a + actions_in o.body) os t.1)

-- ---- States.

value-fits : (base : ℕ) (l : Option ℕ) (v : Option StateValue) → base + value_size l v ≤ 65535 → ValueFits (value_number base l v)
unfolding constant_size
value-fits base l none h = tt
value-fits base l (some v) h = omega arith

pub states-fit : (l : Option ℕ) (base a : ℕ) (ss : List State) → StatesTidy ss → base + state_expressions l ss ≤ 65535 → a + state_records ss ≤ 65535 → Each StateInRange (states_of l base a ss)
unfolding states_of state_expressions state_records
states-fit l base a [] t h g = tt
states-fit l base a (s ∷ ss) t h g = (
  record { name = omega (arith, label-short s.label s.value t.0.0); value = value-fits base l s.value (omega arith); first = omega arith; count = omega arith },
  states-fit l (base + expressions_of_state l s) (a + actions_in s.actions) ss t.1 (omega arith) (omega arith),
)

value-near : (v : Option StateValue) → ValueNear v → Near (value_place v)
value-near none h = omega arith
value-near (some v) h = h

pub state-places : (text : List ℕ) (ss : List State) → StatesNear text ss → Each (λ (p : D.StatePlaces). Near p.at × Near p.value) (map (λ s. record { at = s.at; value = value_place s.value }) ss)
state-places text [] n = tt
state-places text (s ∷ ss) n = ((n.0.0, value-near s.value n.0.1.0), state-places text ss n.1)

pub state-names : (l : Option ℕ) (base a : ℕ) (ss : List State) → StatesTidy ss → Each (λ (s : D.State). length s.name ≤ 132) (states_of l base a ss)
unfolding states_of
state-names l base a [] t = tt
state-names l base a (s ∷ ss) t = (label-short s.label s.value t.0.0, state-names l (base + expressions_of_state l s) (a + actions_in s.actions) ss t.1)

-- A state's value where the sequencing register has a length that values have.
abbrev pub LengthFits : Option ℕ → Type 0
LengthFits none = Unit {0}
LengthFits (some l) = (1 ≤ l) × (l ≤ 256)

abbrev pub ValueIn : Value → Type 0
ValueIn v = (1 ≤ v.length) × (v.length ≤ 256) × (v.number < 2 ^ v.length)

pub state-constant : (l : Option ℕ) (c : Constant) → LengthFits l → ConstantRight c → ValueIn (state_constant l c)
unfolding state_constant longest
state-constant none c f h = (h.some_bits, h.at-most, h.fits)
state-constant (some l) c f h = go c.bare (ltb c.value.number (2 ^ l)) refl
  where
    go : (a b : Bool) → ltb c.value.number (2 ^ l) ≡ b → ValueIn (cond a (cond b (value l c.value.number) c.value) c.value)
    go true true e = (f.0, f.1, ltb-true _ _ e)
    go true false e = (h.some_bits, h.at-most, h.fits)
    go false b e = (h.some_bits, h.at-most, h.fits)
