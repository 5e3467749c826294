-- A section is what is written of its records where each record is, and is not where one is not.
use mathlib.Core.Bool.{Bool, true, false, cond, true≢false}
use mathlib.Core.List.{List, [], ◌∷◌}
use mathlib.Core.Path.{◌≡◌, refl, sym, ap, ◌∙◌}
use Prim.Native.Nat.{ℕ, zero, suc, ◌+◌, ◌*◌, ◌/◌, ◌%◌, ◌<◌}
use native.Mathlib.Numerals.{add-one}
use native.Mathlib.Omega.{arith}
use lib.ListN.{drop, get_or, length, take}
use mathlib.Core.Logic.{⊎_elim}
use native.Mathlib.Nat.{eq-zero-or-pos}
use Rattle.std.proofs.Common.{◌&&◌, ◌≤◌, ◌-◌}
use Rattle.std.specs.Bool.{MatchBool}
use Rattle.std.specs.List.{list_all, range_with_len}
use Rattle.language.specs.Decode.{action_of, node_of}
use Rattle.language.specs.Description as D
use Rattle.language.specs.Description.{Description, Facility, action_at, facility_at, is_computed, no_facility, node_at}
use Rattle.language.specs.Encode.{action_bytes, action_size, concat, facility_record, facility_records, facility_size, little, node_bytes, node_size}
use Rattle.language.specs.Layout.{facility_bytes, place_in}
use Rattle.language.specs.Scan.{same}
use Rattle.language.specs.Tree.{Name}
use Rattle.image_records.proofs.ActionLaws.{action-length}
use Rattle.image_records.proofs.ByteLaws.{same_of, same_true}
use Rattle.image_records.proofs.WrittenNodes.{node-length}
use Rattle.image_sections.specs.Declarations.{facility_in, name_length_in}
use Rattle.about_images.specs.Rows.{facilities-are, facilities-at, row_at, row_is}
use Rattle.image_order.specs.Holds.{Actions, Facilities, Nodes}
use Rattle.image_form.specs.Form.{NamesLong}

-- What is not the same as some row differs.
pub differs : (s t : List ℕ) → (s ≡ t → ⊥) → same s t ≡ false
differs s t h = by-test (same s t) refl
  where
    by-test : (b : Bool) → same s t ≡ b → same s t ≡ false
    by-test true e = absurd (h (same_true s t e))
    by-test false e = e

unlike : {s t : List ℕ} → same s t ≡ false → s ≡ t → ⊥
unlike f e = true≢false (sym (same_of e) ∙ f)

-- ---- A test of every row, by its number.

-- It holds of n rows from a on, or fails at one.
below : (test : ℕ → Bool) (a n : ℕ) → MatchBool (list_all test (range_with_len a n)) ((k : ℕ) → a ≤ k → k < a + n → test k ≡ true) ((k : ℕ) × (k < a + n) × (test k ≡ false))
below test a zero = λ k h g. absurd (omega arith)
below test a (suc n) = go (test a) refl (list_all test (range_with_len (a + 1) n)) (below test (a + 1) n)
  where
    here : test a ≡ true → ((k : ℕ) → a + 1 ≤ k → k < a + 1 + n → test k ≡ true) → (k : ℕ) → a ≤ k → k < a + suc n → test k ≡ true
    here e f k h g = ⊎_elim (λ z. let q : k ≡ a = omega arith in ap test q ∙ e) (λ l. f k (omega arith) (omega arith)) (eq-zero-or-pos (k - a))

    go : (b : Bool) → test a ≡ b → (r : Bool) → MatchBool r ((k : ℕ) → a + 1 ≤ k → k < a + 1 + n → test k ≡ true) ((k : ℕ) × (k < a + 1 + n) × (test k ≡ false))
        → MatchBool (b && r) ((k : ℕ) → a ≤ k → k < a + suc n → test k ≡ true) ((k : ℕ) × (k < a + suc n) × (test k ≡ false))
    go true e true f = here e f
    go true e false w = (w.0, omega (arith, w.1), w.2)
    go false e r f = (a, omega arith, e)

-- What holds where it holds of all n rows, and does not where it fails at one, is the test of all.
pub all_rows : (test : ℕ → Bool) (n : ℕ) {r s : Bool} → r ≡ list_all test (range_with_len 0 n) → (((k : ℕ) → k < n → test k ≡ true) → s ≡ true) → ((k : ℕ) → k < n → test k ≡ false → s ≡ false) → r ≡ s
all_rows test n {r} {s} e held failed = e ∙ go (list_all test (range_with_len 0 n)) (below test 0 n)
  where
    go : (b : Bool) → MatchBool b ((k : ℕ) → 0 ≤ k → k < 0 + n → test k ≡ true) ((k : ℕ) × (k < 0 + n) × (test k ≡ false)) → b ≡ s
    go true f = sym (held (λ k l. f k (omega arith) (omega arith)))
    go false w = sym (failed w.0 (omega (arith, w.1)) w.2)

-- ---- Expressions and actions.

module _ (d : Description) (s : List ℕ) (h : Nodes d s) where
  pub nodes-same : length s ≡ node_size * (length s / node_size) → ((n : ℕ) → n < length s / node_size → take node_size (drop (node_size * n) s) ≡ node_bytes (node_of s n))
      → same s (concat node_bytes d.expressions) ≡ true
  unfolding node_at
  nodes-same l f =
      same_of (row_is node_bytes node_size node-length d.expressions s D.Node.broken (rw h.count l) (λ n g. f n (omega (arith, h.count)) ∙ ap node_bytes (sym (h.at n))))

  pub nodes-differ : (n : ℕ) → n < length s / node_size → same (take node_size (drop (node_size * n) s)) (node_bytes (node_of s n)) ≡ false
      → same s (concat node_bytes d.expressions) ≡ false
  unfolding node_at
  nodes-differ n g f =
      differs s (concat node_bytes d.expressions)
      (λ e. unlike f (ap (λ (t : List ℕ). take node_size (drop (node_size * n) t)) e ∙ row_at node_bytes node_size node-length d.expressions n D.Node.broken (omega (arith, h.count)) ∙ ap node_bytes (h.at n)))

module _ (d : Description) (s : List ℕ) (h : Actions d s) where
  pub actions-same : length s ≡ action_size * (length s / action_size) → ((n : ℕ) → n < length s / action_size → take action_size (drop (action_size * n) s) ≡ action_bytes (action_of s n))
      → same s (concat action_bytes d.actions) ≡ true
  unfolding action_at
  actions-same l f =
      same_of (row_is action_bytes action_size action-length d.actions s D.Action.broken (rw h.count l) (λ n g. f n (omega (arith, h.count)) ∙ ap action_bytes (sym (h.at n))))

  pub actions-differ : (n : ℕ) → n < length s / action_size → same (take action_size (drop (action_size * n) s)) (action_bytes (action_of s n)) ≡ false
      → same s (concat action_bytes d.actions) ≡ false
  unfolding action_at
  actions-differ n g f =
      differs s (concat action_bytes d.actions)
      (λ e. unlike f (ap (λ (t : List ℕ). take action_size (drop (action_size * n) t)) e ∙ row_at action_bytes action_size action-length d.actions n D.Action.broken (omega (arith, h.count)) ∙ ap action_bytes (h.at n)))

-- ---- Facilities.

-- A record has room for a place below 65,536.
whole-mod : (a b : ℕ) → (a * 256 + b) % 256 ≡ b % 256
whole-mod a b = omega arith

two-mod : (b : Bool) (e p : ℕ) → little 2 (cond b e (p % 65536)) ≡ little 2 (cond b e p)
unfolding little
two-mod true e p = refl
two-mod false e p =
    let low : p % 65536 % 256 ≡ p % 256 = omega arith in
    let split : p / 256 ≡ p / 65536 * 256 + p % 65536 / 256 = omega arith in
    rw (low, split, whole-mod (p / 65536) (p % 65536 / 256))

record-mod : (p : ℕ) (f : Facility) → facility_record (p % 65536) f ≡ facility_record p f
unfolding facility_record
record-mod p f = rw (two-mod (is_computed f.kind) f.expression p)

place-more : (fs : List Facility) (n : ℕ) → n < length fs → place_in fs (suc n) ≡ place_in fs n + facility_bytes (get_or fs n no_facility)
unfolding place_in
place-more [] n h = absurd (omega arith)
place-more (f ∷ fs) zero h = by-rest fs
  where
    by-rest : (gs : List Facility) → facility_bytes f + place_in gs 0 ≡ 0 + facility_bytes f
    by-rest [] = omega arith
    by-rest (g ∷ gs) = omega arith
place-more (f ∷ fs) (suc n) h = omega (arith, place-more fs n (omega arith))

module _ (d : Description) (s : List ℕ) (h : Facilities d s) (g : NamesLong d s) where
  pub place-first : 0 ≡ place_in d.facilities 0 % 65536
  unfolding place_in
  place-first = by-list d.facilities
    where
      by-list : (fs : List Facility) → 0 ≡ place_in fs 0 % 65536
      by-list [] = refl
      by-list (f ∷ fs) = refl

  -- The place of the next one.
  pub place-next : (n : ℕ) {p q b : ℕ} → n < length s / facility_size → p ≡ place_in d.facilities n % 65536 → b ≡ facility_bytes (facility_at d n) → q ≡ (p + b) % 65536
      → q ≡ place_in d.facilities (n + 1) % 65536
  unfolding facility_at
  place-next n l e f k = rw (add-one n) (omega (arith, place-more d.facilities n (omega (arith, h.count))))

  -- The test of record n, where its place is right.
  pub record-test : (n : ℕ) {p : ℕ} {r : Bool} → n < length s / facility_size → p ≡ place_in d.facilities n % 65536
      → ((name : Name) → length name ≡ name_length_in facility_size 2 s n → r ≡ same (take facility_size (drop (facility_size * n) s)) (facility_record p (facility_in s n name)))
      → r ≡ same (take facility_size (drop (facility_size * n) s)) (facility_record (place_in d.facilities n) (facility_at d n))
  record-test n {p} l e f =
      f (facility_at d n).name (g n l) ∙ ap (λ (x : Facility). same (take facility_size (drop (facility_size * n) s)) (facility_record p x)) (sym (h.at n))
      ∙ ap (λ (x : List ℕ). same (take facility_size (drop (facility_size * n) s)) x) (ap (λ (q : ℕ). facility_record q (facility_at d n)) e ∙ record-mod (place_in d.facilities n) (facility_at d n))

  pub facilities-same : length s ≡ facility_size * (length s / facility_size)
      → ((n : ℕ) → n < length s / facility_size → take facility_size (drop (facility_size * n) s) ≡ facility_record (place_in d.facilities n) (facility_at d n))
      → same s (facility_records 0 d.facilities) ≡ true
  unfolding facility_at
  facilities-same l f = same_of (facilities-are d.facilities s (rw h.count l) (λ n k. f n (omega (arith, h.count))))

  pub facilities-differ : (n : ℕ) → n < length s / facility_size
      → same (take facility_size (drop (facility_size * n) s)) (facility_record (place_in d.facilities n) (facility_at d n)) ≡ false
      → same s (facility_records 0 d.facilities) ≡ false
  unfolding facility_at
  facilities-differ n l f =
      differs s (facility_records 0 d.facilities)
      (λ e. unlike f (ap (λ (t : List ℕ). take facility_size (drop (facility_size * n) t)) e ∙ facilities-at d.facilities n (omega (arith, h.count))))
