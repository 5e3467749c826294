-- Records of one size, one after the other: what stands at each, and when bytes are such a row.
use mathlib.Core.List.{List, [], ◌∷◌, ◌++◌}
use Rattle.std.specs.Prelude.{◌≡◌, drop, get_or}
use Rattle.std.proofs.Math.Path.{refl, sym, ap₂}
use Rattle.std.proofs.Common.{ap, ◌∙◌, take-append-drop, get_or-drop, get_or-take, take_at}
use Prim.Native.Nat.{ℕ, zero, suc, ◌+◌, ◌*◌, ◌<◌}
use Rattle.std.proofs.Math.Nat.{mul-suc, mul-zero}
use native.Mathlib.Omega.{arith}
use Rattle.std.proofs.Math.ListN.{length, take, length-append, length-drop}
use Rattle.std.proofs.Math.Seq.{drop_at, drop-drop}

-- The bytes that stand at a place, one by one.
pub stands : (s : List ℕ) (at size : ℕ) {bs : List ℕ} → take size (drop at s) ≡ bs → (i : ℕ) → i < size → get_or s (at + i) 0 ≡ get_or bs i 0
stands s at size e i h = sym (get_or-drop at s i 0) ∙ sym (get_or-take size (drop at s) i 0 h) ∙ ap (λ (l : List ℕ). get_or l i 0) e

-- An element's bytes depend on the place that those before it leave.
module _ {A : Type 0} (write : ℕ → A → List ℕ) (weight : A → ℕ) where
  unfoldable pub running : ℕ → List A → List ℕ
  running p [] = []
  running p (x ∷ xs) = write p x ++ running (p + weight x) xs

  -- The place of the n-th element.
  unfoldable pub place_at : ℕ → List A → ℕ → ℕ
  place_at p [] n = p
  place_at p (x ∷ xs) zero = p
  place_at p (x ∷ xs) (suc n) = place_at (p + weight x) xs n

  module _ (size : ℕ) (sized : (p : ℕ) (x : A) → length (write p x) ≡ size) where
    pub running-length : (p : ℕ) (xs : List A) → length (running p xs) ≡ size * length xs
    unfolding running
    running-length p [] = sym (mul-zero size)
    running-length p (x ∷ xs) =
        length-append (write p x) (running (p + weight x) xs) ∙ rw (sized p x, running-length (p + weight x) xs, mul-suc size (length xs)) (omega arith)

    pub running-at : (p : ℕ) (xs : List A) (n : ℕ) (d : A) → n < length xs
        → take size (drop (size * n) (running p xs)) ≡ write (place_at p xs n) (get_or xs n d)
    unfolding running place_at
    running-at p [] n d h = absurd (omega arith)
    running-at p (x ∷ xs) zero d h = rw (mul-zero size) (take_at (write p x) (running (p + weight x) xs) size (sized p x))
    running-at p (x ∷ xs) (suc n) d h =
        let e : size * suc n ≡ size + size * n = mul-suc size n ∙ omega arith in
        rw (e, ← drop-drop (size * n) size (write p x ++ running (p + weight x) xs), drop_at (write p x) (running (p + weight x) xs) size (sized p x))
        (running-at (p + weight x) xs n d (omega arith))

    -- Bytes that have each record are the row.
    pub running-is : (p : ℕ) (xs : List A) (s : List ℕ) (d : A) → length s ≡ size * length xs
        → ((n : ℕ) → n < length xs → take size (drop (size * n) s) ≡ write (place_at p xs n) (get_or xs n d)) → s ≡ running p xs
    unfolding running place_at
    running-is p [] s d l f = none s (l ∙ mul-zero size)
      where
        none : (s : List ℕ) → length s ≡ 0 → s ≡ []
        none [] e = refl
        none (x ∷ s) e = absurd (omega arith)
    running-is p (x ∷ xs) s d l f =
        let e : length s ≡ size + size * length xs = l ∙ mul-suc size (length xs) ∙ omega arith in
        let k : length (drop size s) ≡ size * length xs = length-drop size s ∙ omega arith in
        let h : take size s ≡ write p x = rw (mul-zero size) at (f 0 (omega arith)) in
        let t = running-is (p + weight x) xs (drop size s) d k (next f) in
        sym (take-append-drop size s) ∙ ap₂ (λ (a b : List ℕ). a ++ b) h t
      where
        next : ((n : ℕ) → n < suc (length xs) → take size (drop (size * n) s) ≡ write (place_at p (x ∷ xs) n) (get_or (x ∷ xs) n d))
            → (n : ℕ) → n < length xs → take size (drop (size * n) (drop size s)) ≡ write (place_at (p + weight x) xs n) (get_or xs n d)
        next f n g =
            let e : size * suc n ≡ size + size * n = mul-suc size n ∙ omega arith in
            rw (drop-drop (size * n) size s, ← e) (f (suc n) (omega arith))
