-- Rows of bytes: when two are the same, and what a row holds after bytes were written into it.
use mathlib.Core.Bool.{Bool, true, false, ◌&&◌}
use mathlib.Core.List.{List, [], ◌∷◌, ◌++◌, append_assoc}
use mathlib.Core.Path.{◌≡◌, refl, sym, ap, ◌∙◌}
use Prim.Native.Nat.{ℕ, ◌+◌, ◌-◌, ◌<◌, ◌≤◌, min}
use native.Mathlib.Numerals.{add-one}
use native.Mathlib.Omega.{arith}
use borrow.Author.Tests.{eq-eqb, eqb-true, leb-true, le-leb, lt-leb}
use lib.Dec.{eqb, leb}
use lib.ListN.{length, get_or, set, take, drop, length-append, length-take, length-drop, drop_of_length-le, get_or-append}
use lib.Seq.{drop_at, drop-drop, ext_get_or, get_or-append-add, get_or-drop, get_or-take, length-paste, length-take-le, paste, paste-suc, take_all, take_at, take-length, take-nil}
use Rattle.language.specs.Decode.{pick}
use Rattle.language.specs.Scan.{same}
use Rattle.image_records.specs.Placed.{placed}

-- ---- Sameness.

pub same_refl : (s : List ℕ) → same s s ≡ true
unfolding same
same_refl [] = refl
same_refl (a ∷ s) = rw (eq-eqb a a refl, same_refl s)

pub same_of : {s t : List ℕ} → s ≡ t → same s t ≡ true
same_of {s} {t} e = rw (← e) (same_refl s)

true-not-false : {A : Type 0} → false ≡ true → A
true-not-false e = absurd (let z : ◌≡◌ {A = ℕ} 0 1 = cc in omega arith)

pub same_true : (s t : List ℕ) → same s t ≡ true → s ≡ t
unfolding same
same_true [] [] e = refl
same_true [] (b ∷ t) e = true-not-false e
same_true (a ∷ s) [] e = true-not-false e
same_true (a ∷ s) (b ∷ t) e = both (eqb a b) (same s t) refl (same_true s t) e
  where
    both : (p q : Bool) → eqb a b ≡ p → (q ≡ true → s ≡ t) → p && q ≡ true → a ∷ s ≡ b ∷ t
    both true q x f z = let h : a ≡ b = eqb-true a b x in let g : s ≡ t = f z in rw (h, g)
    both false q x f z = true-not-false z

-- A row is not the same as a longer or shorter one, nor as one that differs at a place.
pub same-lengths : (s t : List ℕ) → (length s ≡ length t → ⊥) → same s t ≡ false
same-lengths s t d = differs (same s t) refl
  where
    differs : (b : Bool) → same s t ≡ b → same s t ≡ false
    differs true e = absurd (d (ap length (same_true s t e)))
    differs false e = e

pub same_differs : (s t : List ℕ) (i : ℕ) → (get_or s i 0 ≡ get_or t i 0 → ⊥) → same s t ≡ false
same_differs s t i d = differs (same s t) refl
  where
    differs : (b : Bool) → same s t ≡ b → same s t ≡ false
    differs true e = absurd (d (ap (λ (l : List ℕ). get_or l i 0) (same_true s t e)))
    differs false e = e

pub same-all : (s t : List ℕ) (i : ℕ) → length s ≡ length t → length s ≤ i → ((k : ℕ) → k < i → get_or s k 0 ≡ get_or t k 0) → same s t ≡ true
same-all s t i l h f = same_of (ext_get_or 0 s t l (λ k g. f k (omega arith)))

-- ---- Parts.

pub part_none : (s : List ℕ) (n at : ℕ) → length s ≤ at → [] ≡ take n (drop at s)
part_none s n at h = rw (drop_of_length-le s h) (sym (take-nil n))

pub part-rest : (s : List ℕ) (n at : ℕ) → length s - at < n → take (length s - at) (drop at s) ≡ take n (drop at s)
part-rest s n at h =
    let l = length-drop at s in
    take_all (length s - at) (drop at s) (omega arith) ∙ sym (take_all n (drop at s) (omega arith))

-- Past the end nothing stands.
pub stand-past : (s bs : List ℕ) (at k : ℕ) → length bs ≡ k → 0 < k → length s < at + k → same (take k (drop at s)) bs ≡ false
stand-past s bs at k l p h =
    let e : length (take k (drop at s)) ≡ min k (length s - at) = length-take k (drop at s) ∙ rw (length-drop at s) in
    same-lengths (take k (drop at s)) bs (λ g. omega arith)

-- ---- Writing.

pub pasted-more : {s : List ℕ} (s₀ bs : List ℕ) (at i : ℕ) → s ≡ paste s₀ at bs i → at + length bs ≤ length s₀ → i < length bs
    → set s (at + i) (get_or bs i 0) ≡ paste s₀ at bs (i + 1)
pasted-more s₀ bs at i e h g = rw (e, add-one i) (paste-suc s₀ at bs i 0 (omega arith) g)

pub pasted_length : {s : List ℕ} (s₀ bs : List ℕ) (at i : ℕ) → s ≡ paste s₀ at bs i → at + length bs ≤ length s₀ → i ≤ length bs
    → length s ≡ length s₀
pasted_length s₀ bs at i e h g = ap length e ∙ length-paste s₀ at bs i (omega arith) g

pub pasted-all : {s : List ℕ} (s₀ bs : List ℕ) (at i : ℕ) → s ≡ paste s₀ at bs i → at + length bs ≤ length s₀ → i ≡ length bs
    → s ≡ placed s₀ at bs
unfolding placed
pasted-all s₀ bs at i e h g = rw (le-leb _ _ h) (e ∙ rw (g, take-length bs))

pub placed-nothing : (s bs : List ℕ) (at : ℕ) → length s < at + length bs → s ≡ placed s at bs
unfolding placed
placed-nothing s bs at h = rw (lt-leb _ _ h)

module _ (s bs : List ℕ) (at : ℕ) where
  pub placed-length : length (placed s at bs) ≡ length s
  unfolding placed
  placed-length = by-test (leb (at + length bs) (length s)) refl
    where
      by-test : (b : Bool) → leb (at + length bs) (length s) ≡ b → length (pick b (take at s ++ bs ++ drop (at + length bs) s) s) ≡ length s
      by-test true t =
          let h : at + length bs ≤ length s = leb-true _ _ t in
          length-append (take at s ++ bs) (drop (at + length bs) s) ∙ rw (length-append (take at s) bs, length-take-le at s (omega arith), length-drop (at + length bs) s) (omega arith)
      by-test false t = refl

  module _ (h : at + length bs ≤ length s) where
    -- Where they fit, the bytes stand at the place.
    pub placed-whole : placed s at bs ≡ take at s ++ bs ++ drop (at + length bs) s
    unfolding placed
    placed-whole = rw (le-leb _ _ h)

    front : length (take at s ++ bs) ≡ at + length bs
    front = length-append (take at s) bs ∙ rw (length-take-le at s (omega arith))

    pub placed-part : take (length bs) (drop at (placed s at bs)) ≡ bs
    placed-part =
        rw (placed-whole, append_assoc (take at s) bs (drop (at + length bs) s), drop_at (take at s) (bs ++ drop (at + length bs) s) at (length-take-le at s (omega arith)))
        (take_at bs (drop (at + length bs) s) (length bs) refl)

    pub placed-in : (i : ℕ) → i < length bs → get_or (placed s at bs) (at + i) 0 ≡ get_or bs i 0
    placed-in i g =
        sym (get_or-drop at (placed s at bs) i 0) ∙ sym (get_or-take (length bs) (drop at (placed s at bs)) i 0 g) ∙ ap (λ (l : List ℕ). get_or l i 0) placed-part

    -- More bytes behind them.
    pub placed-more : (cs : List ℕ) → at + length bs + length cs ≤ length s → placed (placed s at bs) (at + length bs) cs ≡ placed s at (bs ++ cs)
    unfolding placed
    placed-more cs g =
        let l : length (take at s ++ bs ++ drop (at + length bs) s) ≡ length s = ap length (sym placed-whole) ∙ placed-length in
        let e : at + length bs + length cs ≤ length (take at s ++ bs ++ drop (at + length bs) s) = omega arith in
        let a : length (bs ++ cs) ≡ length bs + length cs = length-append bs cs in
        let f : at + length (bs ++ cs) ≤ length s = omega arith in
        let i : at + length (bs ++ cs) ≡ at + length bs + length cs = omega arith in
        rw (le-leb _ _ h, le-leb _ _ e, le-leb _ _ f, i)
        (rw (
          take_at (take at s ++ bs) (drop (at + length bs) s) (at + length bs) front,
          ← drop-drop (length cs) (at + length bs) (take at s ++ bs ++ drop (at + length bs) s),
          drop_at (take at s ++ bs) (drop (at + length bs) s) (at + length bs) front,
          drop-drop (length cs) (at + length bs) s,
          append_assoc (take at s) bs cs,
        ))

  -- Every other byte is as it was.
  pub placed-before : (i : ℕ) → i < at → get_or (placed s at bs) i 0 ≡ get_or s i 0
  unfolding placed
  placed-before i g = by-test (leb (at + length bs) (length s)) refl
    where
      by-test : (b : Bool) → leb (at + length bs) (length s) ≡ b → get_or (pick b (take at s ++ bs ++ drop (at + length bs) s) s) i 0 ≡ get_or s i 0
      by-test true t =
          let h : at + length bs ≤ length s = leb-true _ _ t in
          let l : length (take at s) ≡ at = length-take-le at s (omega arith) in
          rw (append_assoc (take at s) bs (drop (at + length bs) s)) (get_or-append (take at s) (bs ++ drop (at + length bs) s) 0 i (omega arith) ∙ get_or-take at s i 0 g)
      by-test false t = refl

  pub placed-after : (i : ℕ) → at + length bs ≤ i → get_or (placed s at bs) i 0 ≡ get_or s i 0
  unfolding placed
  placed-after i g = by-test (leb (at + length bs) (length s)) refl
    where
      by-test : (b : Bool) → leb (at + length bs) (length s) ≡ b → get_or (pick b (take at s ++ bs ++ drop (at + length bs) s) s) i 0 ≡ get_or s i 0
      by-test true t =
          let h : at + length bs ≤ length s = leb-true _ _ t in
          let p = take at s ++ bs in
          let l : length p ≡ at + length bs = length-append (take at s) bs ∙ rw (length-take-le at s (omega arith)) in
          let e : i ≡ length p + (i - (at + length bs)) = omega arith in
          let f : at + length bs + (i - (at + length bs)) ≡ i = omega arith in
          ap (λ (k : ℕ). get_or (p ++ drop (at + length bs) s) k 0) e ∙ get_or-append-add p (drop (at + length bs) s) (i - (at + length bs)) 0
          ∙ get_or-drop (at + length bs) s (i - (at + length bs)) 0 ∙ ap (λ (k : ℕ). get_or s k 0) f
      by-test false t = refl
