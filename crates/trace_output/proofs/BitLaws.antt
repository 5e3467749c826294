-- A word's bits in print, one by one. Assumes nothing.
use mathlib.Core.List.{List, [], ◌∷◌, ◌++◌}
use mathlib.Core.Path.{◌≡◌, refl, sym, ap, ◌∙◌}
use Prim.Native.Nat.{ℕ, zero, suc, ◌+◌, ◌-◌, ◌/◌, ◌%◌, ◌^◌, ◌≤◌, ◌<◌}
use native.Mathlib.Nat.{mod-eq_of_lt}
use native.Mathlib.Omega.{arith}
use lib.ListN.{get_or, length, take}
use lib.Seq.{take-suc}
use Rattle.language.specs.Layout.{word_bytes}
use Rattle.language.specs.Trace.{bits}
use Rattle.language.specs.Value.{Value}
use Rattle.store_words.proofs.PartLaws.{inside_is, loaded-inside, part-lt}
use Rattle.store_layout.specs.Layout.{word_in}
use Rattle.store_layout.specs.Parts.{loaded, part_in}

pub length-bits : (l x : ℕ) → length (bits l x) ≡ l
unfolding bits
length-bits zero x = refl
length-bits (suc l) x = ap suc (length-bits l x)

pub bit_at : (l x k : ℕ) → k < l → get_or (bits l x) k 0 ≡ x / 2 ^ (l - (k + 1)) % 2 + 48
unfolding bits
bit_at zero x k h = absurd (omega arith)
bit_at (suc l) x zero h = let e : suc l - (0 + 1) ≡ l = omega arith in rw e refl
bit_at (suc l) x (suc k) h = let e : suc l - (suc k + 1) ≡ l - (k + 1) = omega arith in rw e (bit_at l x k (omega arith))

module _ (B : List ℕ) (at l k : ℕ) (h : at + word_bytes l ≤ length B) (g : k < l) where
  part-one : (loaded B at l k 1).number ≡ part_in B at l (l - (k + 1)) 1
  part-one = ap (λ (v : Value). v.number) (loaded-inside B at l k 1 (inside_is (length B) at l k 1 h (omega arith) (omega arith)))

  part_small : part_in B at l (l - (k + 1)) 1 < 2
  part_small = part-lt B at l (l - (k + 1)) 1

  -- The lowest 64 bits of what loading one bit gives.
  pub bit-small : {n m : ℕ} → n ≡ (loaded B at l k 1).number → m ≡ n % 2 ^ 64 → m < 2
  bit-small {n} {m} e f =
      let p : n < 2 = rw (e ∙ part-one) part_small in
      let q : n % 2 ^ 64 ≡ n = mod-eq_of_lt (omega arith) in
      omega (arith, p, q, f)

  pub bit-loaded : {n m : ℕ} → n ≡ (loaded B at l k 1).number → m ≡ n % 2 ^ 64 → m ≡ word_in B at l / 2 ^ (l - (k + 1)) % 2
  unfolding part_in
  bit-loaded {n} {m} e f =
      let p : n < 2 = rw (e ∙ part-one) part_small in
      let q : n % 2 ^ 64 ≡ n = mod-eq_of_lt (omega arith) in
      f ∙ (q ∙ (e ∙ part-one))

-- One bit more.
pub bits-more : (l x k : ℕ) {b : ℕ} → k < l → b ≡ x / 2 ^ (l - (k + 1)) % 2 + 48 → take k (bits l x) ++ (b ∷ []) ≡ take (k + 1) (bits l x)
bits-more l x k {b} h e =
    let s : k + 1 ≡ suc k = omega arith in
    rw (s, e) (ap (λ (c : ℕ). take k (bits l x) ++ (c ∷ [])) (sym (bit_at l x k h)) ∙ sym (take-suc (bits l x) k 0 (omega (arith, h, length-bits l x))))
