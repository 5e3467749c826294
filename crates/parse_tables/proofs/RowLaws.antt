-- A record written in its table: the table has it, and all others keep theirs.
use mathlib.Core.Bool.{Bool, true, false, cond, true≢false}
use mathlib.Core.List.{List, [], ◌∷◌, ◌++◌}
use mathlib.Core.Path.{◌≡◌, refl, sym, ap, ◌∙◌, subst}
use Prim.Native.Nat.{ℕ, ◌+◌, ◌-◌, ◌*◌, ◌<◌, ◌≤◌}
use native.Mathlib.Nat.{mul-le-mul_left}
use native.Mathlib.Omega.{arith}
use borrow.Author.Tests.{leb-true, ltb-false, ltb-true}
use lib.Dec.{leb, ltb}
use lib.ListN.{length, get_or, take, drop, length-drop}
use lib.Seq.{drop-drop, ext_get_or, get_or-drop, get_or-take, length-take-le}
use Rattle.image_records.proofs.ByteLaws.{placed-after, placed-before, placed-in, placed-length}
use Rattle.image_records.specs.Placed.{placed}
use Rattle.parse_array.proofs.Regions.{added-in, after_kept, before-kept, part_of}
use Rattle.parse_array.specs.Held.{other_in}
use Rattle.parse_array.specs.Layout.{other_from, work_size}
use Rattle.parse_tables.specs.declared.Table.{Table}
use Rattle.parse_tables.specs.declared.Table.TheVariants as T
use Rattle.parse_tables.specs.Rows.{Kept, Wrote, apart, apart_from, expressions, from, most, rows, size}

-- ---- Tables as they lie.

-- A table ends within the array.
pub ends-within : (t : Table) → from t + size t * most t ≤ work_size
ends-within T.Actions = omega arith
ends-within T.ActionPlaces = omega arith
ends-within T.Facilities = omega arith
ends-within T.FacilityPlaces = omega arith
ends-within T.Operations = omega arith
ends-within T.OperationPlaces = omega arith
ends-within T.States = omega arith
ends-within T.StatePlaces = omega arith
ends-within T.FacilityNames = omega arith
ends-within T.OperationNames = omega arith
ends-within T.Labels = omega arith

begins-behind : (t : Table) → other_from ≤ from t
begins-behind T.Actions = omega arith
begins-behind T.ActionPlaces = omega arith
begins-behind T.Facilities = omega arith
begins-behind T.FacilityPlaces = omega arith
begins-behind T.Operations = omega arith
begins-behind T.OperationPlaces = omega arith
begins-behind T.States = omega arith
begins-behind T.StatePlaces = omega arith
begins-behind T.FacilityNames = omega arith
begins-behind T.OperationNames = omega arith
begins-behind T.Labels = omega arith

-- A table is read from all that stands behind the expressions.
pub rows_other : (w w' : List ℕ) → other_in w' ≡ other_in w → (u : Table) (m : ℕ) → rows u m w' ≡ rows u m w
unfolding rows other_in
rows_other w w' e u m =
    let k = from u - other_from in
    let g : from u ≡ other_from + k = omega (arith, begins-behind u) in
    ap (take (size u * m)) (ap (λ (n : ℕ). drop n w') g ∙ sym (drop-drop k other_from w') ∙ ap (drop k) e ∙ drop-drop k other_from w ∙ sym (ap (λ (n : ℕ). drop n w) g))

pub times-next : (k n : ℕ) → k * (n + 1) ≡ k * n + k
times-next k n = omega arith

-- The first m records of a table end within it.
up-to : (t : Table) (m : ℕ) → m ≤ most t → size t * m ≤ size t * most t
up-to t m h = mul-le-mul_left (size t) h

-- ---- A part of the array, apart from the bytes that are written or around them.

module _ (s bs : List ℕ) (at : ℕ) (h : at + length bs ≤ length s) where
  before-part : (p k : ℕ) → p + k ≤ at → take k (drop p (placed s at bs)) ≡ take k (drop p s)
  before-part p k g =
      part_of p k (placed s at bs) (omega (arith, placed-length s bs at)) ∙ ap (drop p) (before-kept s bs at h (p + k) g) ∙ sym (part_of p k s (omega arith))

  after-part : (p k : ℕ) → at + length bs ≤ p → take k (drop p (placed s at bs)) ≡ take k (drop p s)
  after-part p k g = ap (take k) (after_kept s bs at h p g)

-- Bytes written within a part.
within-part : (s bs : List ℕ) (p i k : ℕ) → p + k ≤ length s → i + length bs ≤ k → take k (drop p (placed s (p + i) bs)) ≡ placed (take k (drop p s)) i bs
within-part s bs p i k h g =
    ext_get_or 0 (take k (drop p x)) (placed r i bs) (length_part x (omega (arith, placed-length s bs (p + i))) ∙ sym (placed-length r bs i ∙ length_part s h))
    (λ j q. get_d_part x j (omega (arith, length_part x (omega (arith, placed-length s bs (p + i))))) ∙ by_place j (omega (arith, length_part x (omega (arith, placed-length s bs (p + i))))) (ltb j i) refl (ltb j (i + length bs)) refl)
  where
    x : List ℕ
    x = placed s (p + i) bs

    r : List ℕ
    r = take k (drop p s)

    length_part : (v : List ℕ) → p + k ≤ length v → length (take k (drop p v)) ≡ k
    length_part v z = length-take-le k (drop p v) (omega (arith, length-drop p v))

    get_d_part : (v : List ℕ) (j : ℕ) → j < k → get_or (take k (drop p v)) j 0 ≡ get_or v (p + j) 0
    get_d_part v j z = get_or-take k (drop p v) j 0 z ∙ get_or-drop p v j 0

    by_place : (j : ℕ) → j < k → (y : Bool) → ltb j i ≡ y → (z : Bool) → ltb j (i + length bs) ≡ z → get_or x (p + j) 0 ≡ get_or (placed r i bs) j 0
    by_place j q true e z d = placed-before s bs (p + i) (p + j) (omega (arith, ltb-true j i e)) ∙ sym (placed-before r bs i j (ltb-true _ _ e) ∙ get_d_part s j q)
    by_place j q false e true d =
        let o : ℕ = j - i in
        let a : p + j ≡ p + i + o = omega (arith, ltb-false j i e) in
        let c : j ≡ i + o = omega (arith, ltb-false j i e) in
        let f : o < length bs = omega (arith, ltb-true j (i + length bs) d) in
        ap (λ (v : ℕ). get_or x v 0) a ∙ placed-in s bs (p + i) (omega arith) o f
        ∙ sym (ap (λ (v : ℕ). get_or (placed r i bs) v 0) c ∙ placed-in r bs i (omega (arith, length_part s h)) o f)
    by_place j q false e false d =
        placed-after s bs (p + i) (p + j) (omega (arith, ltb-false j (i + length bs) d)) ∙ sym (placed-after r bs i j (ltb-false _ _ d) ∙ get_d_part s j q)

module _ (t : Table) (n : ℕ) (w bs : List ℕ) (l : length w ≡ work_size) (b : length bs ≡ size t) (h : n < most t) where
  more : n + 1 ≤ most t
  more = omega arith

  fits : from t + size t * n + length bs ≤ length w
  fits = let e = up-to t (n + 1) more in omega (arith, e, times-next (size t) n, ends-within t)

  row-behind : rows t (n + 1) (placed w (from t + size t * n) bs) ≡ rows t n w ++ bs
  unfolding rows
  row-behind = let e : size t * (n + 1) ≡ size t * n + length bs = omega (arith, times-next (size t) n) in rw e (added-in w bs (from t) (size t * n) fits)

  row-instead : (m : ℕ) → n < m → m ≤ most t → rows t m (placed w (from t + size t * n) bs) ≡ placed (rows t m w) (size t * n) bs
  unfolding rows
  row-instead m g k =
      let e = up-to t m k in
      let f = mul-le-mul_left {m = n + 1} {n = m} (size t) (omega arith) in
      within-part w bs (from t) (size t * n) (size t * m) (omega (arith, e, ends-within t)) (omega (arith, f, times-next (size t) n))

  row_apart : (u : Table) → apart u t ≡ true → (m : ℕ) → m ≤ most u → rows u m (placed w (from t + size t * n) bs) ≡ rows u m w
  unfolding rows
  row_apart u a m k = go (leb (from u + size u * most u) (from t)) refl a
    where
      go : (z : Bool) → leb (from u + size u * most u) (from t) ≡ z → cond z true (leb (from t + size t * most t) (from u)) ≡ true
          → take (size u * m) (drop (from u) (placed w (from t + size t * n) bs)) ≡ take (size u * m) (drop (from u) w)
      go true e d = before-part w bs (from t + size t * n) fits (from u) (size u * m) (omega (arith, up-to u m k, leb-true (from u + size u * most u) (from t) e))
      go false e d = after-part w bs (from t + size t * n) fits (from u) (size u * m) (omega (arith, up-to t (n + 1) more, times-next (size t) n, leb-true (from t + size t * most t) (from u) d))

  row-front : expressions (placed w (from t + size t * n) bs) ≡ expressions w
  unfolding expressions
  row-front = before-kept w bs (from t + size t * n) fits other_from (omega (arith, begins-behind t))

  pub written : Wrote t n bs w (placed w (from t + size t * n) bs)
  written = record { whole = l; still = placed-length w bs (from t + size t * n) ∙ l; behind = row-behind; instead = row-instead; kept = record { tables = λ u a. row_apart u (one u a); front = row-front } }
    where
      one : (u : Table) → cond (apart u t) true false ≡ true → apart u t ≡ true
      one u a = go (apart u t) a
        where
          go : (z : Bool) → cond z true false ≡ true → z ≡ true
          go true e = refl
          go false e = e

-- The same, as the code has it.
pub row_written : (t : Table) (n : ℕ) {w w' bs : List ℕ} {a k : ℕ} → length w ≡ work_size → length bs ≡ size t → n < most t → a ≡ from t → k ≡ size t → w' ≡ placed w (a + k * n) bs
    → Wrote t n bs w w'
row_written t n {w} {bs = bs} l b h e f g = subst (Wrote t n bs w) (sym (g ∙ rw (e, f))) (written t n w bs l b h)

-- ---- Several tables written.

pub apart-first : (u t : Table) (ts : List Table) → apart_from u (t ∷ ts) ≡ true → apart_from u (t ∷ []) ≡ true
apart-first u t ts e = go (apart u t) e
  where
    go : (z : Bool) → cond z (apart_from u ts) false ≡ true → cond z true false ≡ true
    go true d = refl
    go false d = d

apart-rest : (u t : Table) (ts : List Table) → apart_from u (t ∷ ts) ≡ true → apart_from u ts ≡ true
apart-rest u t ts e = go (apart u t) e
  where
    go : (z : Bool) → cond z (apart_from u ts) false ≡ true → apart_from u ts ≡ true
    go true d = d
    go false d = absurd (true≢false (sym d))

pub kept_more : {t : Table} {ts : List Table} {w w₁ w₂ : List ℕ} → Kept (t ∷ []) w w₁ → Kept ts w₁ w₂ → Kept (t ∷ ts) w w₂
kept_more {t} {ts} a b = record {
  tables = λ u e m h. b.tables u (apart-rest u t ts e) m h ∙ a.tables u (apart-first u t ts e) m h;
  front = b.front ∙ a.front;
}
