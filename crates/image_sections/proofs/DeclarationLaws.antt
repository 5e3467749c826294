-- What record n of a section of declarations is.
use mathlib.Core.Bool.{cond}
use mathlib.Core.List.{List}
use mathlib.Core.Option.{none}
use mathlib.Core.Path.{◌≡◌, ap, ◌∙◌}
use Prim.Native.Nat.{ℕ, ◌+◌, ◌*◌, ◌/◌, ◌<◌, ◌≤◌}
use native.Mathlib.Nat.{add-zero}
use native.Mathlib.Omega.{arith}
use borrow.Author.Tests.{le-leb, lt-leb}
use lib.ListN.{get_or, length}
use Rattle.language.specs.Decode.{bounds_at, facility_of, half_at, kind_of, number_at, run_at, value_of}
use Rattle.language.specs.Description as D
use Rattle.language.specs.Description.{is_computed, no_run}
use Rattle.language.specs.Tree as T
use Rattle.language.specs.Tree.{Name}
use Rattle.image_sections.specs.Declarations.{facility_in, name_length_in, none_named, operation_in, place_field_in, state_in}
use Rattle.language.specs.Encode.{facility_size, operation_size, state_size}

pub name-past : (size inside : ℕ) (s : List ℕ) (n : ℕ) → length s < size * n + size → name_length_in size inside s n ≡ 0
unfolding name_length_in
name-past size inside s n h = rw (lt-leb _ _ h)

pub name-whole : (size inside : ℕ) (s : List ℕ) (n : ℕ) → size * n + size ≤ length s → name_length_in size inside s n ≡ get_or s (size * n + inside) 0
unfolding name_length_in
name-whole size inside s n h = rw (le-leb _ _ h)

pub name-first : (size : ℕ) (s : List ℕ) (n : ℕ) → size * n + size ≤ length s → name_length_in size 0 s n ≡ get_or s (size * n) 0
name-first size s n h = name-whole size 0 s n h ∙ ap (λ (k : ℕ). get_or s k 0) (add-zero (size * n))

pub place-past : (s : List ℕ) (n : ℕ) → length s < facility_size * n + facility_size → place_field_in s n ≡ 0
unfolding place_field_in
place-past s n h = rw (lt-leb _ _ h)

pub place-whole : (s : List ℕ) (n : ℕ) → facility_size * n + facility_size ≤ length s → place_field_in s n ≡ number_at 2 (facility_size * n + 11) s
unfolding place_field_in
place-whole s n h = rw (le-leb _ _ h)

module _ (s : List ℕ) (n : ℕ) (name : Name) where
  pub facility-past : length s / facility_size ≤ n → facility_in s n name ≡ none_named name
  unfolding facility_in
  facility-past h = let g : length s < facility_size * n + facility_size = omega arith in rw (lt-leb _ _ g)

  pub facility-whole : n < length s / facility_size → facility_in s n name ≡ facility_of (facility_size * n) s name
  unfolding facility_in
  facility-whole h = let g : facility_size * n + facility_size ≤ length s = omega arith in rw (le-leb _ _ g)

  pub facility-fields : {k : T.Kind} {d p : ℕ} {w b : D.Bounds} → k ≡ kind_of (get_or s (facility_size * n) 0) → d ≡ get_or s (facility_size * n + 1) 0
      → w ≡ bounds_at (facility_size * n + 3) s → b ≡ bounds_at (facility_size * n + 7) s → p ≡ number_at 2 (facility_size * n + 11) s
      → record { name = name; kind = k; dimensions = d; words = w; bits = b; expression = cond (is_computed k) p 0 } ≡ facility_of (facility_size * n) s name
  unfolding facility_of
  facility-fields k d w b p = rw (k, d, w, b, p)

  pub operation-past : length s / operation_size ≤ n → operation_in s n name ≡ record { name = name; body = no_run }
  unfolding operation_in
  operation-past h = let g : length s < operation_size * n + operation_size = omega arith in rw (lt-leb _ _ g)

  pub operation-whole : n < length s / operation_size → operation_in s n name ≡ record { name = name; body = run_at (operation_size * n + 1) s }
  unfolding operation_in
  operation-whole h = let g : operation_size * n + operation_size ≤ length s = omega arith in rw (le-leb _ _ g)

  pub state-past : length s / state_size ≤ n → state_in s n name ≡ record { name = name; value = none; actions = no_run }
  unfolding state_in
  state-past h = let g : length s < state_size * n + state_size = omega arith in rw (lt-leb _ _ g)

  pub state-whole : n < length s / state_size
      → state_in s n name ≡ record { name = name; value = value_of (half_at (state_size * n + 1) s); actions = run_at (state_size * n + 3) s }
  unfolding state_in
  state-whole h = let g : state_size * n + state_size ≤ length s = omega arith in rw (le-leb _ _ g)
