-- Bytes written behind those that a region holds: the region grows by them, and the others keep theirs.
use mathlib.Core.List.{List, ◌++◌, append_assoc}
use mathlib.Core.Path.{◌≡◌, sym, ap, ◌∙◌}
use Prim.Native.Nat.{ℕ, ◌+◌, ◌-◌, ◌*◌, ◌<◌, ◌≤◌}
use native.Mathlib.Omega.{arith}
use lib.ListN.{length, take, drop, length-append}
use lib.Seq.{drop_at, drop-drop, length-take-le, take-add, take-append-le, take_at, take-take}
use Rattle.image_records.proofs.ByteLaws.{placed-length, placed-whole}
use Rattle.image_records.specs.Placed.{placed}
use Rattle.parse_array.specs.Held.{Held, held, other_in, with_bytes}
use Rattle.parse_array.specs.Layout.{most_nodes, other_from, places_from, work_size}
use Rattle.language.specs.Encode.{node_size}

pub same-held : {x x' y y' z z' : List ℕ} → x ≡ x' → y ≡ y' → z ≡ z' → ◌≡◌ {A = Held} (record { nodes = x; places = y; other = z }) (record { nodes = x'; places = y'; other = z' })
same-held p q r = rw (p, q, r)

-- A part, from the front that holds it.
pub part_of : (p k : ℕ) (s : List ℕ) → p ≤ length s → take k (drop p s) ≡ drop p (take (p + k) s)
part_of p k s h = sym (ap (drop p) (take-add p k s) ∙ drop_at (take p s) (take k (drop p s)) p (length-take-le p s h))

module _ (s bs : List ℕ) (at : ℕ) (h : at + length bs ≤ length s) where
  front : length (take at s ++ bs) ≡ at + length bs
  front = length-append (take at s) bs ∙ rw (length-take-le at s (omega arith))

  -- The bytes stand behind what was before them.
  pub added : take (at + length bs) (placed s at bs) ≡ take at s ++ bs
  added = rw (placed-whole s bs at h) (take_at (take at s ++ bs) (drop (at + length bs) s) (at + length bs) front)

  pub before-kept : (m : ℕ) → m ≤ at → take m (placed s at bs) ≡ take m s
  before-kept m g =
      let l : m ≤ length (take at s ++ bs) = omega (arith, front) in
      let k : m ≤ length (take at s) = omega (arith, length-take-le at s (omega arith)) in
      rw (placed-whole s bs at h) (take-append-le m (take at s ++ bs) (drop (at + length bs) s) l ∙ take-append-le m (take at s) bs k ∙ take-take m at s g)

  pub after_kept : (m : ℕ) → at + length bs ≤ m → drop m (placed s at bs) ≡ drop m s
  after_kept m g =
      let j = m - (at + length bs) in
      let e : m ≡ at + length bs + j = omega arith in
      let d : drop (at + length bs) (placed s at bs) ≡ drop (at + length bs) s =
      rw (placed-whole s bs at h) (drop_at (take at s ++ bs) (drop (at + length bs) s) (at + length bs) front) in
      ap (λ (k : ℕ). drop k (placed s at bs)) e ∙ sym (drop-drop j (at + length bs) (placed s at bs)) ∙ ap (drop j) d ∙ drop-drop j (at + length bs) s
      ∙ sym (ap (λ (k : ℕ). drop k s) e)

-- The same in a region that begins at p.
pub added-in : (s bs : List ℕ) (p i : ℕ) → p + i + length bs ≤ length s
    → take (i + length bs) (drop p (placed s (p + i) bs)) ≡ take i (drop p s) ++ bs
added-in s bs p i h =
    let e : p + (i + length bs) ≡ p + i + length bs = omega arith in
    part_of p (i + length bs) (placed s (p + i) bs) (omega (arith, placed-length s bs (p + i)))
    ∙ ap (λ (k : ℕ). drop p (take k (placed s (p + i) bs))) e
    ∙ ap (drop p) (added s bs (p + i) h ∙ ap (λ (l : List ℕ). l ++ bs) (take-add p i s) ∙ append_assoc (take p s) (take i (drop p s)) bs)
    ∙ drop_at (take p s) (take i (drop p s) ++ bs) p (length-take-le p s (omega arith))

-- A record and its places, with room for both.
pub record-added : (w bs ps : List ℕ) (n : ℕ) → length w ≡ work_size → n < most_nodes → length bs ≡ 8 → length ps ≡ 6
    → held (n + 1) (placed (placed w (node_size * n) bs) (places_from + 6 * n) ps) ≡ with_bytes (held n w) bs ps
unfolding other_in held
record-added w bs ps n l h b p =
    let w₁ = placed w (node_size * n) bs in
    let l₁ : length w₁ ≡ work_size = placed-length w bs (node_size * n) ∙ l in
    let e : node_size * (n + 1) ≡ node_size * n + length bs = omega arith in
    let f : 6 * (n + 1) ≡ 6 * n + length ps = omega arith in
    let x : take (node_size * (n + 1)) (placed w₁ (places_from + 6 * n) ps) ≡ take (node_size * n) w ++ bs =
    before-kept w₁ ps (places_from + 6 * n) (omega arith) (node_size * (n + 1)) (omega arith) ∙ rw e (added w bs (node_size * n) (omega arith)) in
    let y : take (6 * (n + 1)) (drop places_from (placed w₁ (places_from + 6 * n) ps)) ≡ take (6 * n) (drop places_from w) ++ ps =
    rw f (added-in w₁ ps places_from (6 * n) (omega arith)) ∙ ap (λ (v : List ℕ). take (6 * n) v ++ ps) (after_kept w bs (node_size * n) (omega arith) places_from (omega arith)) in
    let z : drop other_from (placed w₁ (places_from + 6 * n) ps) ≡ drop other_from w =
    after_kept w₁ ps (places_from + 6 * n) (omega arith) other_from (omega arith) ∙ after_kept w bs (node_size * n) (omega arith) other_from (omega arith) in
    same-held x y z

pub record-written : (w bs : List ℕ) {w₁ w₂ bs' ps' : List ℕ} (ps : List ℕ) (n : ℕ) → length w ≡ work_size → n < most_nodes → length bs ≡ 8 → length ps ≡ 6
    → w₁ ≡ placed w (node_size * n) bs' → bs' ≡ bs → w₂ ≡ placed w₁ (places_from + 6 * n) ps' → ps' ≡ ps
    → held (n + 1) w₂ ≡ with_bytes (held n w) bs ps
record-written w bs ps n l h b p e f g i = rw (g, e, f, i) (record-added w bs ps n l h b p)
