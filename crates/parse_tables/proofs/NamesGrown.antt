-- The names of a table, when one is added, and where the table stays.
use mathlib.Core.List.{List, [], ◌∷◌, ◌++◌, map}
use mathlib.Core.Path.{◌≡◌, refl, sym, ap, ◌∙◌}
use Prim.Native.Nat.{ℕ, zero, suc, ◌+◌, ◌*◌, ◌<◌, ◌≤◌, min}
use native.Mathlib.Nat.{min-eq_left, zero-add}
use native.Mathlib.Omega.{arith}
use lib.ListN.{drop, get_or, length, length-take, take, get_or-append}
use lib.Seq.{get_or-append-add, get_or-drop, get_or-take}
use Rattle.language.specs.Characters.{folded}
use Rattle.language.specs.Decode.{number_at, up_to}
use Rattle.language.specs.Encode.{little, two}
use Rattle.image_records.proofs.NumberLaws.{number-back, number-two}
use Rattle.parse_array.specs.Held.{other_in}
use Rattle.parse_array.specs.Layout.{name_size}
use Rattle.parse_array.specs.Names.{letters}
use Rattle.parse_tables.proofs.RowLaws.{rows_other}
use Rattle.parse_tables.specs.declared.Table.{Table}
use Rattle.parse_tables.specs.declared.Table.TheVariants as T
use Rattle.parse_tables.specs.Names.{facility_names, name_at, name_row, names_in, names_of}
use Rattle.parse_tables.specs.Rows.{from, most, rows, size}

-- ---- Lists by numbers.

module _ {A : Type 0} where
  pub up-to-last : (f : ℕ → A) (i n : ℕ) → up_to f i (n + 1) ≡ up_to f i n ++ f (i + n) ∷ []
  unfolding up_to
  up-to-last f i zero = let e : i + 0 ≡ i = omega arith in rw e
  up-to-last f i (suc n) =
      let e : suc n + 1 ≡ suc (n + 1) = omega arith in
      let d : suc i + n ≡ i + suc n = omega arith in
      rw e (ap (λ (l : List A). f i ∷ l) (up-to-last f (suc i) n ∙ rw d))

  pub up-to-same : (f g : ℕ → A) (i n : ℕ) → ((k : ℕ) → k < i + n → f k ≡ g k) → up_to f i n ≡ up_to g i n
  unfolding up_to
  up-to-same f g i zero h = refl
  up-to-same f g i (suc n) h = rw (h i (omega arith), up-to-same f g (suc i) n (λ k q. h k (omega arith)))

-- ---- Names.

two-length : (x : ℕ) → length (two x) ≡ 2
unfolding little
two-length x = refl

first-half : (place size i : ℕ) → i < 2 → get_or (name_row place size) i 0 ≡ get_or (two place) i 0
unfolding name_row
first-half place size i h = get_or-append (two place) (two size) 0 i (omega (arith, two-length place))

second-half : (place size i : ℕ) → get_or (name_row place size) (2 + i) 0 ≡ get_or (two size) i 0
unfolding name_row
second-half place size i = ap (λ (m : ℕ). get_or (two place ++ two size) (m + i) 0) (sym (two-length place)) ∙ get_or-append-add (two place) (two size) i 0

-- A number of a part, in the whole.
pub part-number : (w : List ℕ) (p k i : ℕ) → i + 2 ≤ k → number_at 2 i (take k (drop p w)) ≡ number_at 2 (p + i) w
part-number w p k i h =
    let e : p + i + 1 ≡ p + (i + 1) = omega arith in
    number-two i (take k (drop p w)) ∙ rw (byte i (omega arith), byte (i + 1) (omega arith), ← e) (sym (number-two (p + i) w))
  where
    byte : (j : ℕ) → j < k → get_or (take k (drop p w)) j 0 ≡ get_or w (p + j) 0
    byte j g = get_or-take k (drop p w) j 0 g ∙ get_or-drop p w j 0

module _ (text : List ℕ) where
  -- A name stands in four bytes.
  name-same : (s r : List ℕ) (k : ℕ) → ((i : ℕ) → i < 4 * k + 4 → get_or s i 0 ≡ get_or r i 0) → name_at text s k ≡ name_at text r k
  unfolding name_at
  name-same s r k h =
      rw (
        number-two (4 * k) s,
        number-two (4 * k + 2) s,
        number-two (4 * k) r,
        number-two (4 * k + 2) r,
        h (4 * k) (omega arith),
        h (4 * k + 1) (omega arith),
        h (4 * k + 2) (omega arith),
        h (4 * k + 2 + 1) (omega arith),
      )

  -- The name that was added last.
  last_name : (s : List ℕ) (n place size : ℕ) → length s ≡ 4 * n → place < 65536 → size < 65536 → name_at text (s ++ name_row place size) n ≡ letters text place size
  unfolding name_at
  last_name s n place size l p q = rw (a, b)
    where
      in_row : (i : ℕ) → get_or (s ++ name_row place size) (4 * n + i) 0 ≡ get_or (name_row place size) i 0
      in_row i = ap (λ (m : ℕ). get_or (s ++ name_row place size) (m + i) 0) (sym l) ∙ get_or-append-add s (name_row place size) i 0

      a : number_at 2 (4 * n) (s ++ name_row place size) ≡ place
      a = number-back 2 (4 * n) place (s ++ name_row place size) p (λ i h. in_row i ∙ first-half place size i h)

      second : (i : ℕ) → get_or (s ++ name_row place size) (4 * n + 2 + i) 0 ≡ get_or (name_row place size) (2 + i) 0
      second i = let e : 4 * n + 2 + i ≡ 4 * n + (2 + i) = omega arith in rw e (in_row (2 + i))

      b : number_at 2 (4 * n + 2) (s ++ name_row place size) ≡ size
      b = number-back 2 (4 * n + 2) size (s ++ name_row place size) q (λ i h. second i ∙ second-half place size i)

  pub names-behind : (s : List ℕ) (n place size : ℕ) → length s ≡ 4 * n → place < 65536 → size < 65536
      → names_of text (s ++ name_row place size) (n + 1) ≡ names_of text s n ++ letters text place size ∷ []
  unfolding names_of
  names-behind s n place size l p q =
      up-to-last (name_at text (s ++ name_row place size)) 0 n
      ∙ rw (
        zero-add n,
        last_name s n place size l p q,
        up-to-same (name_at text (s ++ name_row place size)) (name_at text s) 0 n
            (λ k h. name-same (s ++ name_row place size) s k (λ i g. get_or-append s (name_row place size) 0 i (omega arith))),
      )

-- ---- The names that a table holds.

-- The word that a table of names gives is the name.
pub word-there : (text w : List ℕ) (t : Table) (k n : ℕ) {base p l : ℕ} {r : List ℕ} → size t ≡ name_size → k < n → base ≡ from t
    → p ≡ number_at 2 (base + 4 * k) w → l ≡ number_at 2 (base + 4 * k + 2) w → r ≡ take l (drop p text) → map folded r ≡ name_at text (rows t n w) k
unfolding name_at letters rows
word-there text w t k n {base} {p} {l} {r} e h o a b d =
    let z : 4 * k + 4 ≤ size t * n = omega (arith, ap (λ (m : ℕ). m * n) e) in
    let c : from t + (4 * k + 2) ≡ from t + 4 * k + 2 = omega arith in
    let x : p ≡ number_at 2 (from t + 4 * k) w = a ∙ ap (λ (m : ℕ). number_at 2 (m + 4 * k) w) o in
    let y : l ≡ number_at 2 (from t + 4 * k + 2) w = b ∙ ap (λ (m : ℕ). number_at 2 (m + 4 * k + 2) w) o in
    rw (part-number w (from t) (size t * n) (4 * k) (omega arith), part-number w (from t) (size t * n) (4 * k + 2) (omega arith), c, ← x, ← y, ← d)

pub word-short : (s : List ℕ) (p l : ℕ) {r : List ℕ} → r ≡ take l (drop p s) → l < 65536 → length r ≤ 65535
word-short s p l e h = omega (arith, ap length e, length-take l (drop p s))

module _ (text : List ℕ) (t : Table) where
  pub names-few : (w : List ℕ) (n : ℕ) → n ≤ most t → names_in text t w n ≡ names_of text (rows t n w) n
  unfolding names_in
  names-few w n h = rw (min-eq_left h)

  pub no_names : (w : List ℕ) → [] ≡ names_in text t w 0
  unfolding names_in names_of up_to
  no_names w = let e : min 0 (most t) ≡ 0 = omega arith in rw e

  -- They stay where the table does.
  pub names-kept : (w w' : List ℕ) → ((m : ℕ) → m ≤ most t → rows t m w' ≡ rows t m w) → (n : ℕ) → names_in text t w' n ≡ names_in text t w n
  unfolding names_in
  names-kept w w' o n = ap (λ (r : List ℕ). names_of text r (min n (most t))) (o (min n (most t)) (omega arith))

-- Those of facilities, where all that stands behind the expressions does.
pub facilities-other : (text w w' : List ℕ) → other_in w' ≡ other_in w → (n : ℕ) → facility_names text w' n ≡ facility_names text w n
facilities-other text w w' e n = names-kept text T.FacilityNames w w' (λ m h. rows_other w w' e T.FacilityNames m) n
