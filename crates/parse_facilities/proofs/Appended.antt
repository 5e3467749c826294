-- One declaration more, at the end: what it adds to each section.
use mathlib.Core.List.{List, [], ◌∷◌, ◌++◌, append_assoc, append-nil, map}
use mathlib.Core.Path.{◌≡◌, refl, sym, ap, ◌∙◌}
use Prim.Native.Nat.{ℕ, suc, ◌+◌}
use native.Mathlib.Nat.{add_assoc}
use native.Mathlib.Omega.{arith}
use lib.ListN.{length}
use Rattle.language.specs.Describe.{Noted}
use Rattle.language.specs.DescribeText.{facilities_of, facility_declared, facility_nodes, function_nodes, function_size, function_sizes, places_of}
use Rattle.language.specs.Description.{Facility}
use Rattle.language.specs.Encode.{facility_record, facility_records}
use Rattle.language.specs.Layout.{facility_bytes, store_size_of}
use Rattle.language.specs.Naming.{Scope, no_state}
use Rattle.language.specs.Tree.{Declaration, Name}
use Rattle.judge_records.specs.Noted.{facility_beside_bytes}
use Rattle.parse_facilities.specs.Listed.{besides}

pub size-last : (ds : List Declaration) (d : Declaration) → function_sizes (ds ++ d ∷ []) ≡ function_sizes ds + function_size d.function
unfolding function_sizes
size-last [] d = omega arith
size-last (e ∷ ds) d = omega (arith, size-last ds d)

pub facilities-last : (base : ℕ) (ds : List Declaration) (d : Declaration) → facilities_of base (ds ++ d ∷ []) ≡ facilities_of base ds ++ facility_declared (base + function_sizes ds) d ∷ []
unfolding facilities_of function_sizes
facilities-last base [] d = let e : base + 0 ≡ base = omega arith in rw e
facilities-last base (e ∷ ds) d =
    ap (λ (l : List Facility). facility_declared base e ∷ l)
    (facilities-last (base + function_size e.function) ds d ∙ ap (λ (n : ℕ). facilities_of (base + function_size e.function) ds ++ facility_declared n d ∷ []) (add_assoc base (function_size e.function) (function_sizes ds)))

pub records-last : (place : ℕ) (fs : List Facility) (f : Facility) → facility_records place (fs ++ f ∷ []) ≡ facility_records place fs ++ facility_record (place + store_size_of fs) f
unfolding facility_records store_size_of
records-last place [] f = let e : place + 0 ≡ place = omega arith in rw e (append-nil (facility_record place f))
records-last place (g ∷ fs) f =
    ap (λ (l : List ℕ). facility_record place g ++ l)
    (records-last (place + facility_bytes g) fs f ∙ ap (λ (n : ℕ). facility_records (place + facility_bytes g) fs ++ facility_record n f) (add_assoc place (facility_bytes g) (store_size_of fs)))
    ∙ sym (append_assoc (facility_record place g) (facility_records (place + facility_bytes g) fs) (facility_record (place + (facility_bytes g + store_size_of fs)) f))

pub store-last : (fs : List Facility) (f : Facility) → store_size_of (fs ++ f ∷ []) ≡ store_size_of fs + facility_bytes f
unfolding store_size_of
store-last [] f = omega arith
store-last (g ∷ fs) f = omega (arith, store-last fs f)

abbrev pub beside_of : ℕ → Declaration → List ℕ
beside_of base d = facility_beside_bytes (facility_declared base d) (places_of d.at d.function d.extent)

pub besides-last : (base : ℕ) (ds : List Declaration) (d : Declaration) → besides base (ds ++ d ∷ []) ≡ besides base ds ++ beside_of (base + function_sizes ds) d
unfolding besides function_sizes
besides-last base [] d = let e : base + 0 ≡ base = omega arith in rw e (append-nil (beside_of base d))
besides-last base (e ∷ ds) d =
    ap (λ (l : List ℕ). beside_of base e ++ l)
    (besides-last (base + function_size e.function) ds d ∙ ap (λ (n : ℕ). besides (base + function_size e.function) ds ++ beside_of n d) (add_assoc base (function_size e.function) (function_sizes ds)))
    ∙ sym (append_assoc (beside_of base e) (besides (base + function_size e.function) ds) (beside_of (base + (function_size e.function + function_sizes ds)) d))

pub names-last : (ds : List Declaration) (d : Declaration) → map (λ (x : Declaration). x.name) (ds ++ d ∷ []) ≡ map (λ (x : Declaration). x.name) ds ++ d.name ∷ []
names-last [] d = refl
names-last (e ∷ ds) d = ap (λ (l : List Name). e.name ∷ l) (names-last ds d)

pub length_last : {A : Type 0} (xs : List A) (x : A) → length (xs ++ x ∷ []) ≡ suc (length xs)
length_last [] x = refl
length_last (y ∷ xs) x = ap suc (length_last xs x)

-- An expression knows the facilities declared before it.
abbrev pub scope_of : List Name → Scope
scope_of names = record { facilities = names; operations = []; state_named = no_state }

abbrev pub names_of : List Declaration → List Name
names_of ds = map (λ (x : Declaration). x.name) ds

pub nodes-last : (before : List Name) (base : ℕ) (ds : List Declaration) (d : Declaration)
    → facility_nodes before base (ds ++ d ∷ []) ≡ facility_nodes before base ds ++ function_nodes (scope_of (before ++ names_of ds)) (base + function_sizes ds) d.function
unfolding facility_nodes function_sizes
nodes-last before base [] d =
    let e : base + 0 ≡ base = omega arith in
    rw (e, append-nil before) (append-nil (function_nodes (scope_of before) base d.function))
nodes-last before base (e ∷ ds) d =
    ap (λ (l : List Noted). function_nodes (scope_of before) base e.function ++ l)
    (nodes-last (before ++ e.name ∷ []) (base + function_size e.function) ds d
    ∙ ap (λ (ns : List Name). facility_nodes (before ++ e.name ∷ []) (base + function_size e.function) ds ++ function_nodes (scope_of ns) (base + function_size e.function + function_sizes ds) d.function) (append_assoc before (e.name ∷ []) (names_of ds))
    ∙ ap (λ (n : ℕ). facility_nodes (before ++ e.name ∷ []) (base + function_size e.function) ds ++ function_nodes (scope_of (before ++ e.name ∷ names_of ds)) n d.function) (add_assoc base (function_size e.function) (function_sizes ds)))
    ∙ sym (append_assoc (function_nodes (scope_of before) base e.function) (facility_nodes (before ++ e.name ∷ []) (base + function_size e.function) ds) (function_nodes (scope_of (before ++ e.name ∷ names_of ds)) (base + (function_size e.function + function_sizes ds)) d.function))
