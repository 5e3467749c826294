-- The facilities, names and labels of a tidy text are right. Assumes nothing.
use Rattle.std.specs.Prelude.{Bool, true, cond, List, [], ◌∷◌, ◌++◌, ◌≡◌, refl, ℕ, ◌+◌, ◌≤◌, leb}
use Rattle.std.proofs.Math.Option.{Option, none, some}
use Rattle.std.proofs.Common.{ap, arith, le-leb}
use Rattle.language.specs.Canonical.{all, facilities_right, facility_right, label_right, most_dimensions, name_right, no_bounds}
use Rattle.language.specs.DescribeText.{bit_bounds, dimensions_of, expressions_of_state, facilities_of, facility_declared, function_size, label_of, operations_of, states_of, value_number, word_bounds}
use Rattle.language.specs.Describe.{actions_in}
use Rattle.language.specs.Tree as T
use Rattle.language.specs.Tree.{Declaration, Extent, Function, Kind, Label, Name, Operation, State, StateValue}
use Rattle.about_rules.specs.Tidy.{DeclarationsTidy, LabelTidy, OperationsTidy, StatesTidy, Suits}
use Rattle.language.specs.Tests.{both}

pub both_so : {a b : Bool} → a ≡ true → b ≡ true → both a b ≡ true
both_so p q = rw p q

-- ---- Facilities.

at_most_two : (x : Extent) → leb (dimensions_of x) 2 ≡ true
at_most_two T.single = refl
at_most_two (T.row y) = refl
at_most_two (T.table y z) = refl

dimensions-right : (k : Kind) (x : Extent) (f : Function) → Suits k x f → leb (dimensions_of x) (most_dimensions k) ≡ true
dimensions-right T.register x f h = at_most_two x
dimensions-right T.sequencing x f h = at_most_two x
dimensions-right T.memory x f h = at_most_two x
dimensions-right T.plain x f h = at_most_two x
dimensions-right T.input T.single f h = refl
dimensions-right T.input (T.row y) f h = refl
dimensions-right T.input (T.table y z) T.unspecified h = absurd h
dimensions-right T.input (T.table y z) T.from_input h = absurd h
dimensions-right T.input (T.table y z) (T.given p e) h = absurd h
dimensions-right T.computed T.single f h = refl
dimensions-right T.computed (T.row y) f h = refl
dimensions-right T.computed (T.table y z) T.unspecified h = absurd h
dimensions-right T.computed (T.table y z) T.from_input h = absurd h
dimensions-right T.computed (T.table y z) (T.given p e) h = absurd h

bounds-right : (x : Extent) → both (cond (leb 2 (dimensions_of x)) true (no_bounds (word_bounds x))) (cond (leb 1 (dimensions_of x)) true (no_bounds (bit_bounds x))) ≡ true
bounds-right T.single = refl
bounds-right (T.row y) = refl
bounds-right (T.table y z) = refl

facility-right : (base : ℕ) (d : Declaration) → Suits d.kind d.extent d.function → facility_right (facility_declared base d) ≡ true
unfolding facility_right
facility-right base d h = both_so (dimensions-right d.kind d.extent d.function h) (bounds-right d.extent)

-- Declarations of one section, and what comes after them.
facilities-then : (r before base : ℕ) (ds es : List Declaration) → DeclarationsTidy r ds → before ≤ r
    → ((b p : ℕ) → p ≤ r → facilities_right p (facilities_of b es) ≡ true) → facilities_right before (facilities_of base (ds ++ es)) ≡ true
unfolding facilities_right facilities_of
facilities-then r before base [] es h l k = k base before l
facilities-then r before base (d ∷ ds) es h l k =
    rw h.0.ranked
    (both_so (le-leb before r l) (both_so (facility-right base d h.0.suits) (facilities-then r r (base + function_size d.function) ds es h.1 (omega arith) k)))

append-none : {A : Type 0} (xs : List A) → xs ++ [] ≡ xs
append-none [] = refl
append-none (x ∷ xs) = ap (λ ys. x ∷ ys) (append-none xs)

-- Registers, memories and terminals.
pub facilities-right : (rs ms ts : List Declaration) → DeclarationsTidy 0 rs → DeclarationsTidy 1 ms → DeclarationsTidy 2 ts → facilities_right 0 (facilities_of 0 (rs ++ (ms ++ ts))) ≡ true
unfolding facilities_right facilities_of
facilities-right rs ms ts h k l =
    rw (← append-none ts)
    (facilities-then 0 0 0 rs (ms ++ (ts ++ [])) h (omega arith) (λ b p x.
    facilities-then 1 p b ms (ts ++ []) k (omega arith) (λ c q y. facilities-then 2 q c ts [] l (omega arith) (λ e o z. refl))))

-- ---- Names.

names-then : (r base : ℕ) (ds es : List Declaration) → DeclarationsTidy r ds
    → ((b : ℕ) → all (λ f. name_right f.name) (facilities_of b es) ≡ true) → all (λ f. name_right f.name) (facilities_of base (ds ++ es)) ≡ true
unfolding all facilities_of
names-then r base [] es h k = k base
names-then r base (d ∷ ds) es h k = both_so h.0.name-right (names-then r (base + function_size d.function) ds es h.1 k)

pub names-right : (rs ms ts : List Declaration) → DeclarationsTidy 0 rs → DeclarationsTidy 1 ms → DeclarationsTidy 2 ts → all (λ f. name_right f.name) (facilities_of 0 (rs ++ (ms ++ ts))) ≡ true
unfolding all facilities_of
names-right rs ms ts h k l =
    rw (← append-none ts)
    (names-then 0 0 rs (ms ++ (ts ++ [])) h (λ b. names-then 1 b ms (ts ++ []) k (λ c. names-then 2 c ts [] l (λ e. refl))))

pub operations-right : (a : ℕ) (os : List Operation) → OperationsTidy os → all (λ o. name_right o.name) (operations_of a os) ≡ true
unfolding all operations_of
operations-right a [] h = refl
operations-right a (o ∷ os) h = both_so h.0.0 (operations-right (a + actions_in o.body) os h.1)

-- ---- Labels.

name-label : (n : Name) (v : Option ℕ) → name_right n ≡ true → label_right n v ≡ true
unfolding name_right
name-label [] v h = absurd (let z : ◌≡◌ {A = ℕ} 0 1 = cc in omega arith)
name-label (b ∷ n) v h = h

label-right : (base : ℕ) (l : Option ℕ) (x : Option Label) (v : Option StateValue) → LabelTidy x v → label_right (label_of x) (value_number base l v) ≡ true
label-right base l none none h = refl
label-right base l none (some v) h = absurd h
label-right base l (some x) none h = name-label x.name none h
label-right base l (some x) (some v) h = name-label x.name _ h.0

pub labels_right : (l : Option ℕ) (base a : ℕ) (ss : List State) → StatesTidy ss → all (λ s. label_right s.name s.value) (states_of l base a ss) ≡ true
unfolding all states_of
labels_right l base a [] h = refl
labels_right l base a (s ∷ ss) h =
    both_so (label-right base l s.label s.value h.0.0) (labels_right l (base + expressions_of_state l s) (a + actions_in s.actions) ss h.1)
