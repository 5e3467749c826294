-- Numbers of four bytes one after the other, as a record has them: read, and written. Assumes nothing.
use mathlib.Core.List.{List, [], ◌∷◌, ◌++◌, append_assoc, append-nil}
use mathlib.Core.Path.{◌≡◌, refl, sym, ap, ◌∙◌}
use Prim.Native.Nat.{ℕ, zero, suc, ◌+◌, ◌*◌, ◌≤◌, ◌<◌}
use native.Mathlib.Nat.{zero-add}
use native.Mathlib.Omega.{arith}
use borrow.Author.Count.{below_more}
use lib.ListN.{get_or, length, set, take, take-append-drop}
use lib.Seq.{ext_get_or, get_or-set_other, get_or-set_same, length-take-le, take-suc}
use Rattle.language.specs.Calls.{over}
use Rattle.language.specs.Decode.{number_at}
use Rattle.language.specs.Encode.{four, little}
use Rattle.language.specs.RecordBytes.{fours, open_mark, record_bytes, returns_from}
use Rattle.language.specs.Step.{Record}
use Rattle.image_records.proofs.ByteLaws.{placed-length, placed-more, placed-whole}
use Rattle.image_records.specs.Placed.{placed}

-- ---- Read.

returns-length : (k at : ℕ) (bs : List ℕ) → length (returns_from k at bs) ≡ k
unfolding returns_from
returns-length zero at bs = refl
returns-length (suc k) at bs = ap suc (returns-length k (at + 4) bs)

returns-get : (k at i : ℕ) (bs : List ℕ) → i < k → get_or (returns_from k at bs) i 0 ≡ number_at 4 (at + 4 * i) bs
unfolding returns_from
returns-get zero at i bs h = absurd (omega arith)
returns-get (suc k) at zero bs h = let e : at + 4 * 0 ≡ at = omega arith in rw e
returns-get (suc k) at (suc i) bs h =
    let e : at + 4 * suc i ≡ at + 4 + 4 * i = omega arith in rw e (returns-get k (at + 4) i bs (omega arith))

-- The first i of xs are those that stand from `at` on.
abbrev pub AsFar : List ℕ → ℕ → List ℕ → ℕ → Type 0
AsFar xs at bs i = (k : ℕ) → k < i → get_or xs k 0 ≡ number_at 4 (at + 4 * k) bs

pub as-far-more : (xs : List ℕ) (at : ℕ) (bs : List ℕ) (i x : ℕ) → i < length xs → AsFar xs at bs i → x ≡ number_at 4 (at + 4 * i) bs → AsFar (set xs i x) at bs (i + 1)
as-far-more xs at bs i x h f e = below_more _ _ (λ k l. get_or-set_other xs i k x 0 (λ q. omega arith) ∙ f k l) (get_or-set_same xs i x 0 h ∙ e)

pub as-far-all : (xs : List ℕ) (at : ℕ) (bs : List ℕ) (n : ℕ) → length xs ≡ n → AsFar xs at bs n → xs ≡ returns_from n at bs
as-far-all xs at bs n e f =
    ext_get_or 0 xs (returns_from n at bs) (e ∙ sym (returns-length n at bs)) (λ i h. let l : i < n = omega arith in f i l ∙ sym (returns-get n at i bs l))

-- ---- Written.

pub fours-length : (xs : List ℕ) → length (fours xs) ≡ 4 * length xs
unfolding fours little
fours-length [] = refl
fours-length (x ∷ xs) = let h = fours-length xs in omega (arith, h)

fours-append : (xs : List ℕ) (x : ℕ) → fours (xs ++ x ∷ []) ≡ fours xs ++ four x
unfolding fours little
fours-append [] x = refl
fours-append (y ∷ xs) x = ap (λ (s : List ℕ). four y ++ s) (fours-append xs x) ∙ sym (append_assoc (four y) (fours xs) (four x))

fours-more : (xs : List ℕ) (i : ℕ) → i < length xs → fours (take (i + 1) xs) ≡ fours (take i xs) ++ four (get_or xs i 0)
fours-more xs i h = let e : i + 1 ≡ suc i = omega arith in rw (e, take-suc xs i 0 h) (fours-append (take i xs) (get_or xs i 0))

pub nothing_placed : (s : List ℕ) (at : ℕ) → at ≤ length s → s ≡ placed s at []
nothing_placed s at h = let e : at + length {A = ℕ} [] ≡ at = omega arith in sym (placed-whole s [] at (omega arith) ∙ rw (append-nil, e) (take-append-drop at s))

-- The first i of xs stand from `at` on, and then one more.
pub fours-placed : (s xs : List ℕ) (at i : ℕ) → at + 4 * length xs ≤ length s → i < length xs
    → placed (placed s at (fours (take i xs))) (at + 4 * i) (four (get_or xs i 0)) ≡ placed s at (fours (take (i + 1) xs))
unfolding little
fours-placed s xs at i h l =
    let n : length (take i xs) ≡ i = length-take-le i xs (omega arith) in
    let e : length (fours (take i xs)) ≡ 4 * i = fours-length (take i xs) ∙ ap (λ (k : ℕ). 4 * k) n in
    rw (fours-more xs i l, ← e) (placed-more s (fours (take i xs)) at (omega arith) (four (get_or xs i 0)) (omega arith))

placed-next : (s bs cs : List ℕ) (n : ℕ) → length bs ≡ n → n + length cs ≤ length s → placed (placed s 0 bs) n cs ≡ placed s 0 (bs ++ cs)
placed-next s bs cs n e h =
    let z : n ≡ 0 + length bs = omega arith in rw z (placed-more s bs 0 (omega arith) cs (omega arith))

pub placed-front : (s bs : List ℕ) → length bs ≤ length s → placed s 0 bs ≡ over bs s
placed-front s bs h = placed-whole s bs 0 (omega arith) ∙ rw (zero-add (length bs))

-- Five times in a row.
module _ (s : List ℕ) (m a b c : ℕ) (xs : List ℕ) (room : 16 + 4 * length xs ≤ length s) where
  abbrev one : List ℕ
  one = four m

  abbrev two : List ℕ
  two = one ++ four a

  abbrev three : List ℕ
  three = two ++ four b

  all-four : List ℕ
  all-four = three ++ four c

  pub all_placed : placed (placed (placed (placed (placed s 0 (four m)) 4 (four a)) 8 (four b)) 12 (four c)) 16 (fours xs) ≡ over (four m ++ (four a ++ (four b ++ (four c ++ fours xs)))) s
  unfolding little all-four
  all_placed =
      let n = fours-length xs in
      rw (placed-next s one (four a) 4 refl (omega arith), placed-next s two (four b) 8 refl (omega arith), placed-next s three (four c) 12 refl (omega arith), placed-next s all-four (fours xs) 16 refl (omega arith))
      (placed-front s (all-four ++ fours xs) (omega arith))

pub record-placed : (s : List ℕ) {s₁ s₂ s₃ s₄ t : List ℕ} (r : Record) → length r.returns ≡ 16 → 80 ≤ length s
    → s₁ ≡ placed s 0 (four open_mark) → s₂ ≡ placed s₁ 4 (four r.state) → s₃ ≡ placed s₂ 8 (four r.cycle) → s₄ ≡ placed s₃ 12 (four r.held)
    → (80 ≤ length s₄ → t ≡ placed s₄ 16 (fours r.returns)) → t ≡ over (record_bytes r) s
unfolding record_bytes
record-placed s {s₁} {s₂} {s₃} {s₄} {t} r e h p₁ p₂ p₃ p₄ p =
    let l : length s₄ ≡ length s =
    ap length p₄ ∙ (placed-length s₃ _ 12 ∙ (ap length p₃ ∙ (placed-length s₂ _ 8 ∙ (ap length p₂ ∙ (placed-length s₁ _ 4 ∙ (ap length p₁ ∙ placed-length s _ 0)))))) in
    p (omega arith) ∙ rw (p₄, p₃, p₂, p₁) (all_placed s open_mark r.state r.cycle r.held r.returns (omega arith))
