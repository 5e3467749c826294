-- A loop that writes one element of a slice after the other, and the lists that such loops leave. Assumes nothing.
use mathlib.Core.Path.{◌≡◌, refl, sym, ap, ◌∙◌}
use mathlib.Core.Logic.{⊎_elim}
use mathlib.Core.List.{List, [], ◌∷◌, ◌++◌}
use Prim.Native.Nat.{ℕ, zero, suc, ◌+◌, ◌-◌, ◌≤◌, ◌<◌, min}
use native.Mathlib.Nat.{eq-zero-or-pos}
use native.Mathlib.Numerals.{add-one}
use native.Mathlib.Omega.{arith}
use lib.ListN.{get_or-append, drop, get_or, length, length-append, length-drop, set, take}
use lib.Seq.{append_snoc, drop-cons, ext_get_or, get_or-append-add, get_or-drop, get_or-take, length-take-le, set_at, take-suc}
use Rattle.store_layout.specs.Slices.{copied, land_bits, landed}

-- The first i elements are those of L, the others still those of S.
unfoldable pub written : List ℕ → ℕ → List ℕ → List ℕ
written L i S = take i L ++ drop i S

module _ (L S : List ℕ) (same : length L ≡ length S) where
  pub length-written : (i : ℕ) → i ≤ length S → length (written L i S) ≡ length S
  unfolding written
  length-written i h = let e = length-take-le i L (omega arith) in rw (length-append (take i L) (drop i S), length-drop i S) (omega arith)

  pub written-rest : (i k : ℕ) → i ≤ length S → i ≤ k → get_or (written L i S) k 0 ≡ get_or S k 0
  unfolding written
  written-rest i k h g =
      let e : length (take i L) + (k - i) ≡ k = omega (arith, length-take-le i L (omega arith)) in
      let f : i + (k - i) ≡ k = omega arith in
      ap (λ (n : ℕ). get_or (take i L ++ drop i S) n 0) (sym e) ∙ get_or-append-add (take i L) (drop i S) (k - i) 0 ∙ get_or-drop i S (k - i) 0 ∙ ap (λ (n : ℕ). get_or S n 0) f

  written-done : (i k : ℕ) → i ≤ length S → k < i → get_or (written L i S) k 0 ≡ get_or L k 0
  unfolding written
  written-done i k h g = get_or-append (take i L) (drop i S) 0 k (omega (arith, length-take-le i L (omega arith))) ∙ get_or-take i L k 0 g

  -- One element more.
  pub written-more : (i : ℕ) → i < length S → set (written L i S) i (get_or L i 0) ≡ written L (i + 1) S
  unfolding written
  written-more i h =
      ap (λ (X : List ℕ). set (take i L ++ X) i (get_or L i 0)) (drop-cons S i 0 h)
      ∙ set_at (take i L) (get_or S i 0) (drop (suc i) S) (get_or L i 0) i (length-take-le i L (omega arith))
      ∙ sym (append_snoc (take i L) (get_or L i 0) (drop (suc i) S))
      ∙ sym (ap (λ (n : ℕ). take n L ++ drop n S) (add-one i) ∙ ap (λ (X : List ℕ). X ++ drop (suc i) S) (take-suc L i 0 (omega arith)))

  -- All is written where the rest of L is that of S.
  pub written_all : (n : ℕ) → n ≤ length S → ((i : ℕ) → n ≤ i → get_or L i 0 ≡ get_or S i 0) → written L n S ≡ L
  written_all n h rest = ext_get_or 0 (written L n S) L (length-written n h ∙ sym same)
      (λ i g. ⊎_elim (λ e. written-rest n i h (omega arith) ∙ sym (rest i (omega arith))) (λ l. written-done n i h (omega arith)) (eq-zero-or-pos (n - i)))

pub length-copied : (B from : List ℕ) → length (copied B from) ≡ length B
unfolding copied
length-copied [] from = refl
length-copied (b ∷ bs) [] = refl
length-copied (b ∷ bs) (x ∷ xs) = ap suc (length-copied bs xs)

pub copied_at : (B from : List ℕ) (i : ℕ) → i < length B → i < length from → get_or (copied B from) i 0 ≡ get_or from i 0
unfolding copied
copied_at [] from i h g = absurd (omega arith)
copied_at (b ∷ bs) [] i h g = absurd (omega arith)
copied_at (b ∷ bs) (x ∷ xs) zero h g = refl
copied_at (b ∷ bs) (x ∷ xs) (suc i) h g = copied_at bs xs i (omega arith) (omega arith)

pub copied-rest : (B from : List ℕ) (i : ℕ) → min (length B) (length from) ≤ i → get_or (copied B from) i 0 ≡ get_or B i 0
unfolding copied
copied-rest [] from i h = refl
copied-rest (b ∷ bs) [] i h = refl
copied-rest (b ∷ bs) (x ∷ xs) zero h = absurd (omega arith)
copied-rest (b ∷ bs) (x ∷ xs) (suc i) h = copied-rest bs xs i (omega arith)

pub length-landed : (S P M : List ℕ) → length (landed S P M) ≡ length S
unfolding landed
length-landed [] P M = refl
length-landed (s ∷ S) [] M = refl
length-landed (s ∷ S) (p ∷ P) [] = refl
length-landed (s ∷ S) (p ∷ P) (m ∷ M) = ap suc (length-landed S P M)

pub landed_at : (S P M : List ℕ) (i : ℕ) → i < length S → i < length P → i < length M → get_or (landed S P M) i 0 ≡ land_bits (get_or S i 0) (get_or P i 0) (get_or M i 0)
unfolding landed
landed_at [] P M i h g f = absurd (omega arith)
landed_at (s ∷ S) [] M i h g f = absurd (omega arith)
landed_at (s ∷ S) (p ∷ P) [] i h g f = absurd (omega arith)
landed_at (s ∷ S) (p ∷ P) (m ∷ M) zero h g f = refl
landed_at (s ∷ S) (p ∷ P) (m ∷ M) (suc i) h g f = landed_at S P M i (omega arith) (omega arith) (omega arith)

pub landed-rest : (S P M : List ℕ) (i : ℕ) → min (length S) (min (length P) (length M)) ≤ i → get_or (landed S P M) i 0 ≡ get_or S i 0
unfolding landed
landed-rest [] P M i h = refl
landed-rest (s ∷ S) [] M i h = refl
landed-rest (s ∷ S) (p ∷ P) [] i h = refl
landed-rest (s ∷ S) (p ∷ P) (m ∷ M) zero h = absurd (omega arith)
landed-rest (s ∷ S) (p ∷ P) (m ∷ M) (suc i) h = landed-rest S P M i (omega arith)
