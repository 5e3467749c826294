-- The rows of a table, one after the other: the next of them, and one that is written again.
use mathlib.Core.List.{List, ◌++◌, append_assoc}
use mathlib.Core.Path.{◌≡◌, refl, sym, ap, ◌∙◌}
use Prim.Native.Nat.{ℕ, ◌+◌, ◌*◌, ◌<◌, ◌≤◌}
use native.Mathlib.Nat.{mul-le-mul_left}
use native.Mathlib.Omega.{arith}
use lib.ListN.{drop, length, length-append, take, take-append-drop}
use lib.Seq.{drop_at, take_at, take-take}
use Rattle.image_records.proofs.ByteLaws.{placed-whole}
use Rattle.image_records.specs.Placed.{placed}
use Rattle.parse_array.specs.Layout.{work_size}
use Rattle.parse_tables.proofs.RowLaws.{times-next}
use Rattle.parse_tables.specs.declared.Table.{Table}
use Rattle.parse_tables.specs.Rows.{Wrote, from, most, rows, size}
use Rattle.parse_held.proofs.BodyLaws.{row-length}

-- ---- Bytes in the middle of others.

placed_same : (s bs : List ℕ) (at : ℕ) → at + length bs ≤ length s → take (at + length bs) s ≡ take at s ++ bs → placed s at bs ≡ s
placed_same s bs at h e = placed-whole s bs at h ∙ ap (λ (l : List ℕ). l ++ drop (at + length bs) s) (sym e) ∙ take-append-drop (at + length bs) s

placed-between : (a b c d : List ℕ) (at : ℕ) → length a ≡ at → length c ≡ length b → placed (a ++ (b ++ d)) at c ≡ (a ++ c) ++ d
placed-between a b c d at l m =
    let s = a ++ (b ++ d) in
    let z : at + length c ≤ length s = omega (arith, length-append a (b ++ d), length-append b d) in
    let front : take at s ≡ a = take_at a (b ++ d) at l in
    let after : drop (at + length c) s ≡ d = ap (drop (at + length c)) (sym (append_assoc a b d)) ∙ drop_at (a ++ b) d (at + length c) (omega (arith, length-append a b)) in
    placed-whole s c at z ∙ rw (front, after)

-- ---- Rows.

pub rows-shorter : (t : Table) (n m : ℕ) (w : List ℕ) → n ≤ m → rows t n w ≡ take (size t * n) (rows t m w)
unfolding rows
rows-shorter t n m w h = sym (take-take (size t * n) (size t * m) (drop (from t) w) (mul-le-mul_left {m = n} {n = m} (size t) h))

module _ (t : Table) (n m : ℕ) (w bs rest : List ℕ) (l : length w ≡ work_size) (h : n < m) (k : m ≤ most t) (b : length bs ≡ size t)
    (e : rows t m w ≡ rows t n w ++ (bs ++ rest)) where
  behind : length (rows t n w) ≡ size t * n
  behind = row-length t n w l (omega arith)

  -- The next row.
  pub next_row : rows t (n + 1) w ≡ rows t n w ++ bs
  next_row =
      rows-shorter t (n + 1) m w (omega arith)
      ∙ ap (take (size t * (n + 1))) (e ∙ sym (append_assoc (rows t n w) bs rest))
      ∙ take_at (rows t n w ++ bs) rest (size t * (n + 1)) (omega (arith, length-append (rows t n w) bs, behind, times-next (size t) n))

  pub rows_left : rows t m w ≡ rows t (n + 1) w ++ rest
  rows_left = e ∙ sym (append_assoc (rows t n w) bs rest) ∙ ap (λ (x : List ℕ). x ++ rest) (sym next_row)

  -- Those behind a row that was written again.
  pub rows-still : (cs : List ℕ) {w' : List ℕ} → length cs ≡ size t → Wrote t n cs w w' → rows t m w' ≡ rows t (n + 1) w' ++ rest
  rows-still cs c x =
      x.instead m h k ∙ ap (λ (s : List ℕ). placed s (size t * n) cs) e ∙ placed-between (rows t n w) bs cs rest (size t * n) behind (c ∙ sym b)
      ∙ ap (λ (s : List ℕ). s ++ rest) (sym x.behind)

-- A row that stands there is as good as written.
pub row-stands : (t : Table) (n : ℕ) (w bs : List ℕ) → length w ≡ work_size → length bs ≡ size t → n < most t → rows t (n + 1) w ≡ rows t n w ++ bs → Wrote t n bs w w
row-stands t n w bs l b h e = record { whole = l; still = l; behind = e; instead = again; kept = record { tables = λ u a m g. refl; front = refl } }
  where
    again : (m : ℕ) → n < m → m ≤ most t → rows t m w ≡ placed (rows t m w) (size t * n) bs
    again m g k =
        let z : size t * n + length bs ≡ size t * (n + 1) = omega (arith, times-next (size t) n) in
        let f = mul-le-mul_left {m = n + 1} {n = m} (size t) (omega arith) in
        sym (placed_same (rows t m w) bs (size t * n) (omega (arith, z, f, row-length t m w l k))
        (rw z (sym (rows-shorter t (n + 1) m w (omega arith)) ∙ e ∙ ap (λ (s : List ℕ). s ++ bs) (rows-shorter t n m w (omega arith)))))
