-- Landing byte by byte is landing word by word. Assumes nothing.
use mathlib.Core.Path.{◌≡◌, refl, sym, ap, ◌∙◌}
use mathlib.Core.Logic.{⊎_elim}
use mathlib.Core.List.{List, [], ◌∷◌}
use Prim.Native.Nat.{ℕ, zero, suc, ◌+◌, ◌-◌, ◌*◌, ◌/◌, ◌%◌, ◌^◌, ◌≤◌, ◌<◌}
use native.Mathlib.Nat.{eq-zero-or-pos}
use native.Mathlib.Omega.{arith}
use lib.Bits.{and_lt, and_mod, and_shr, bit_and, bit_xor, xor_lt, xor_mod, xor_shr}
use lib.ListN.{get_or, length}
use Rattle.language.specs.Layout.{word_bytes}
use Rattle.store_layout.specs.Bits.{bit_of}
use Rattle.store_layout.specs.Layout.{Bytes, position, word_in}
use Rattle.store_layout.specs.Slices.{land_bits, landed}
use Rattle.store_layout.proofs.ByteOrder.{position-lt}
use Rattle.store_layout.proofs.Numbers.{same_bits}
use Rattle.store_layout.proofs.Words.{bit-beyond, bit_in}
use Rattle.store_layout.proofs.Writing.{landed_at, length-landed}

-- One of two bits, by the mask's.
abbrev pub choose : ℕ → ℕ → ℕ → ℕ
choose zero p s = s
choose (suc m) p s = p

xor-bit : (a b k : ℕ) → bit_xor a b / 2 ^ k % 2 ≡ bit_xor (a / 2 ^ k % 2) (b / 2 ^ k % 2)
xor-bit a b k = ap (λ (n : ℕ). n % 2) (xor_shr a b k) ∙ xor_mod (a / 2 ^ k) (b / 2 ^ k) 1

and-bit : (a b k : ℕ) → bit_and a b / 2 ^ k % 2 ≡ bit_and (a / 2 ^ k % 2) (b / 2 ^ k % 2)
and-bit a b k = ap (λ (n : ℕ). n % 2) (and_shr a b k) ∙ and_mod (a / 2 ^ k) (b / 2 ^ k) 1

one_bit : (s p m : ℕ) → s < 2 → p < 2 → m < 2 → bit_xor s (bit_and (bit_xor s p) m) ≡ choose m p s
one_bit zero zero zero a b c = refl
one_bit zero zero (suc zero) a b c = refl
one_bit zero (suc zero) zero a b c = refl
one_bit zero (suc zero) (suc zero) a b c = refl
one_bit (suc zero) zero zero a b c = refl
one_bit (suc zero) zero (suc zero) a b c = refl
one_bit (suc zero) (suc zero) zero a b c = refl
one_bit (suc zero) (suc zero) (suc zero) a b c = refl
one_bit (suc (suc s)) p m a b c = absurd (omega arith)
one_bit zero (suc (suc p)) m a b c = absurd (omega arith)
one_bit (suc zero) (suc (suc p)) m a b c = absurd (omega arith)
one_bit zero zero (suc (suc m)) a b c = absurd (omega arith)
one_bit zero (suc zero) (suc (suc m)) a b c = absurd (omega arith)
one_bit (suc zero) zero (suc (suc m)) a b c = absurd (omega arith)
one_bit (suc zero) (suc zero) (suc (suc m)) a b c = absurd (omega arith)

pub land-bit : (s p m k : ℕ) → bit_of (land_bits s p m) k ≡ choose (bit_of m k) (bit_of p k) (bit_of s k)
unfolding bit_of land_bits
land-bit s p m k =
    xor-bit s (bit_and (bit_xor s p) m) k
    ∙ ap (bit_xor (s / 2 ^ k % 2)) (and-bit (bit_xor s p) m k ∙ ap (λ (n : ℕ). bit_and n (m / 2 ^ k % 2)) (xor-bit s p k))
    ∙ one_bit (s / 2 ^ k % 2) (p / 2 ^ k % 2) (m / 2 ^ k % 2) (omega arith) (omega arith) (omega arith)

pub bytes-landed : (S P M : List ℕ) → Bytes S → Bytes P → Bytes M → Bytes (landed S P M)
unfolding landed land_bits
bytes-landed [] P M s p m i = s i
bytes-landed (a ∷ S) [] M s p m i = s i
bytes-landed (a ∷ S) (b ∷ P) [] s p m i = s i
bytes-landed (a ∷ S) (b ∷ P) (c ∷ M) s p m zero = xor_lt 8 a (bit_and (bit_xor a b) c) (s 0) (and_lt 8 (bit_xor a b) c (xor_lt 8 a b (s 0) (p 0)) (m 0))
bytes-landed (a ∷ S) (b ∷ P) (c ∷ M) s p m (suc i) = bytes-landed S P M (λ k. s (suc k)) (λ k. p (suc k)) (λ k. m (suc k)) i

module _ (S P M : List ℕ) (s : Bytes S) (p : Bytes P) (m : Bytes M) (same-P : length P ≡ length S) (same-M : length M ≡ length S) (at l : ℕ) (fits : at + word_bytes l ≤ length S) where
  pub word-landed : word_in (landed S P M) at l ≡ land_bits (word_in S at l) (word_in P at l) (word_in M at l)
  word-landed = same_bits _ _ (λ k. ⊎_elim (λ e. above k (omega arith)) (λ h. below k (omega arith)) (eq-zero-or-pos (8 * word_bytes l - k)) ∙ sym (land-bit (word_in S at l) (word_in P at l) (word_in M at l) k))
    where
      long : length (landed S P M) ≡ length S
      long = length-landed S P M

      of : (k : ℕ) → ℕ
      of k = choose (bit_of (word_in M at l) k) (bit_of (word_in P at l) k) (bit_of (word_in S at l) k)

      three : {x y z u v w : ℕ} → x ≡ u → y ≡ v → z ≡ w → choose x y z ≡ choose u v w
      three {x} {y} {z} {u} {v} {w} e f g = ap (λ (n : ℕ). choose n y z) e ∙ ap (λ (n : ℕ). choose u n z) f ∙ ap (choose u v) g

      above : (k : ℕ) → 8 * word_bytes l ≤ k → bit_of (word_in (landed S P M) at l) k ≡ of k
      above k h =
          bit-beyond (landed S P M) at l (omega (arith, long)) (bytes-landed S P M s p m) k h
          ∙ sym (three (bit-beyond M at l (omega arith) m k h) (bit-beyond P at l (omega arith) p k h) (bit-beyond S at l fits s k h))

      below : (k : ℕ) → k < 8 * word_bytes l → bit_of (word_in (landed S P M) at l) k ≡ of k
      below k h =
          let i : ℕ = at + position l (k / 8) in
          let q = position-lt l (k / 8) (omega arith) in
          bit_in (landed S P M) at l (omega (arith, long)) (bytes-landed S P M s p m) k h
          ∙ ap (λ (n : ℕ). bit_of n (k % 8)) (landed_at S P M i (omega arith) (omega arith) (omega arith))
          ∙ land-bit (get_or S i 0) (get_or P i 0) (get_or M i 0) (k % 8)
          ∙ sym (three (bit_in M at l (omega arith) m k h) (bit_in P at l (omega arith) p k h) (bit_in S at l fits s k h))
