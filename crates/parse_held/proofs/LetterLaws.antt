-- Names in capitals, one behind the other.
use mathlib.Core.List.{List, [], ◌∷◌, ◌++◌, append-nil, map}
use mathlib.Core.Path.{◌≡◌, refl, sym, ap, ◌∙◌}
use Prim.Native.Nat.{ℕ, zero, suc, ◌+◌, ◌-◌, ◌<◌, ◌≤◌}
use native.Mathlib.Nat.{zero-add}
use native.Mathlib.Omega.{arith}
use lib.ListN.{get_or-map, get_or, length, length-append, length-map, set, take, take-append-drop}
use lib.Seq.{paste}
use Rattle.language.specs.Characters.{folded}
use Rattle.language.specs.Decode.{up_to}
use Rattle.language.specs.Encode.{concat}
use Rattle.image_records.proofs.ByteLaws.{pasted-all, pasted_length, pasted-more, placed-more, placed-whole}
use Rattle.image_records.specs.Placed.{placed}
use Rattle.parse_tables.proofs.NamesGrown.{up-to-last}
use Rattle.parse_tables.specs.declared.Table.{Table}
use Rattle.parse_tables.specs.Names.{name_at, names_of}
use Rattle.parse_tables.specs.Rows.{rows}
use Rattle.parse_array.proofs.NodesAdded.{concat-append}
use Rattle.parse_held.specs.Sections.{letters_of}

placed-none : (s : List ℕ) (at : ℕ) → at ≤ length s → s ≡ placed s at []
placed-none s at h =
    let e : at + length {A = ℕ} [] ≡ at = omega arith in
    sym (placed-whole s [] at (omega arith) ∙ rw (e, append-nil (take at s)) (take-append-drop at s))

-- ---- A word.

-- One letter more.
pub folded_more : {s : List ℕ} (s₀ bs : List ℕ) (at i : ℕ) {b : ℕ} → s ≡ paste s₀ at (map folded bs) i → at + length bs ≤ length s₀ → i < length bs → b ≡ folded (get_or bs i 0)
    → set s (at + i) b ≡ paste s₀ at (map folded bs) (i + 1)
unfolding folded
folded_more s₀ bs at i e h g f =
    let l : length (map folded bs) ≡ length bs = length-map bs folded in
    rw (f, ← get_or-map folded bs i 0) (pasted-more s₀ (map folded bs) at i e (omega arith) (omega arith))

pub folded-length : {s : List ℕ} (s₀ bs : List ℕ) (at i : ℕ) → s ≡ paste s₀ at (map folded bs) i → at + length bs ≤ length s₀ → i ≤ length bs → length s ≡ length s₀
folded-length s₀ bs at i e h g =
    let l : length (map folded bs) ≡ length bs = length-map bs folded in
    pasted_length s₀ (map folded bs) at i e (omega arith) (omega arith)

pub folded-all : {s : List ℕ} (s₀ bs : List ℕ) (at i : ℕ) → s ≡ paste s₀ at (map folded bs) i → at + length bs ≤ length s₀ → i ≡ length bs → s ≡ placed s₀ at (map folded bs)
folded-all s₀ bs at i e h g =
    let l : length (map folded bs) ≡ length bs = length-map bs folded in
    pasted-all s₀ (map folded bs) at i e (omega arith) (omega arith)

-- ---- The first of them.

module _ (text : List ℕ) (t : Table) (n : ℕ) (w : List ℕ) where
  -- The letters of the first k of n names.
  unfoldable pub letters_to : ℕ → List ℕ
  letters_to k = concat (λ s. s) (up_to (name_at text (rows t n w)) 0 k)

  pub letters-none : letters_to 0 ≡ []
  unfolding letters_to up_to concat
  letters-none = refl

  pub letters-more : (k : ℕ) → letters_to (k + 1) ≡ letters_to k ++ name_at text (rows t n w) k
  unfolding letters_to concat
  letters-more k =
      let f = name_at text (rows t n w) in
      rw (up-to-last f 0 k, zero-add k) (concat-append (λ s. s) (up_to f 0 k) (f k ∷ []) ∙ rw (append-nil (f k)))

  pub letters-all : letters_to n ≡ letters_of text t n w
  unfolding letters_to letters_of names_of
  letters-all = refl

  -- A word more, counted.
  pub counted-more : (k : ℕ) (r : List ℕ) → map folded r ≡ name_at text (rows t n w) k → length (letters_to (k + 1)) ≡ length (letters_to k) + length r
  counted-more k r f = rw (letters-more k, length-append (letters_to k) (name_at text (rows t n w) k), ← f, length-map r folded)

  letters-grow : (k j : ℕ) → length (letters_to k) ≤ length (letters_to (k + j))
  letters-grow k zero = let e : k + 0 ≡ k = omega arith in omega (arith, ap (λ (i : ℕ). length (letters_to i)) e)
  letters-grow k (suc j) =
      let e : k + suc j ≡ k + j + 1 = omega arith in
      omega (
        arith,
        letters-grow k j,
        ap (λ (i : ℕ). length (letters_to i)) e,
        ap length (letters-more (k + j)),
        length-append (letters_to (k + j)) (name_at text (rows t n w) (k + j)),
      )

  letters-within : (k : ℕ) → k ≤ n → length (letters_to k) ≤ length (letters_of text t n w)
  letters-within k h =
      let e : k + (n - k) ≡ n = omega arith in
      omega (arith, letters-grow k (n - k), ap (λ (i : ℕ). length (letters_to i)) e, ap length letters-all)

  -- A word more, written.
  pub put-more : (s₀ : List ℕ) (at k : ℕ) {to : ℕ} {s s' : List ℕ} (r : List ℕ) → k < n → at + length (letters_of text t n w) ≤ length s₀ → to ≡ at + length (letters_to k) → s ≡ placed s₀ at (letters_to k)
      → map folded r ≡ name_at text (rows t n w) k → s' ≡ placed s to (map folded r) → s' ≡ placed s₀ at (letters_to (k + 1))
  put-more s₀ at k r h g e f i j =
      let name = name_at text (rows t n w) k in
      let l = letters-within (k + 1) (omega arith) in
      let m : length (letters_to (k + 1)) ≡ length (letters_to k) + length name = ap length (letters-more k) ∙ length-append (letters_to k) name in
      j ∙ rw (f, e, i, letters-more k) (placed-more s₀ (letters_to k) at (omega arith) name (omega arith))

  pub put-none : (s : List ℕ) (at : ℕ) → at ≤ length s → s ≡ placed s at (letters_to 0)
  put-none s at h = rw letters-none (placed-none s at h)
