-- The number of a constant: one record after the other.
use mathlib.Core.Bool.{Bool, true, false}
use mathlib.Core.List.{List}
use mathlib.Core.Path.{◌≡◌, refl, sym, ap, ap₂, ◌∙◌}
use Prim.Native.Nat.{ℕ, zero, suc, ◌+◌, ◌-◌, ◌*◌, ◌/◌, ◌%◌, ◌^◌, ◌<◌, ◌≤◌}
use native.Mathlib.Numerals.{add-one}
use native.Mathlib.Nat.{lt_of_lt_of_le, mod-eq_of_lt}
use native.Mathlib.Omega.{arith}
use borrow.Author.Tests.{leb-false, leb-true}
use lib.Dec.{leb}
use lib.ListN.{get_or}
use lib.Pow.{pow_mono}
use Rattle.language.specs.Decode.{node_of, number_at}
use Rattle.language.specs.Description as D
use Rattle.language.specs.Description.{constant_value, digit_length}
use Rattle.language.specs.Value.{Value, value}
use Rattle.image_records.proofs.DigitLaws.{constant-digits, further-of}
use Rattle.image_records.specs.Nodes.{constant_number, digits, held}
use Rattle.language.specs.Encode.{node_size}
use Rattle.value_operators.proofs.Fits.{joined-cut}

digits_more : (k n : ℕ) (s : List ℕ) → digits (k + 1) (n + 1) s ≡ digits k n s * 2 ^ 48 + number_at 6 (node_size * n + 2) s
unfolding digits digit_length
digits_more k n s = rw (add-one k, add-one n)

-- Before the first record there is none.
digits-past : (k n : ℕ) (s : List ℕ) → n ≤ k → digits k n s ≡ digits n n s
unfolding digits digit_length
digits-past zero zero s h = refl
digits-past (suc k) zero s h = refl
digits-past zero (suc n) s h = absurd (omega arith)
digits-past (suc k) (suc n) s h = rw (digits-past k n s (omega arith))

-- A loop over the records from the k-th before record n on.
pub digits-start : (i f : ℕ) (s : List ℕ) → i ≡ f → 0 ≡ digits (i - f) i s % 2 ^ 256
unfolding digits
digits-start i f s h = let e : i - f ≡ 0 = omega arith in rw e

pub digits-next : (i f : ℕ) (s : List ℕ) {x y : ℕ} → f ≤ i → x ≡ digits (i - f) i s % 2 ^ 256 → y ≡ number_at 6 (node_size * i + 2) s
    → (x * 2 ^ 48 + y) % 2 ^ 256 ≡ digits (i + 1 - f) (i + 1) s % 2 ^ 256
digits-next i f s h p q =
    let e : i + 1 - f ≡ i - f + 1 = omega arith in
    ap₂ (λ (a b : ℕ). (a * 2 ^ 48 + b) % 2 ^ 256) p q
    ∙ joined-cut (digits (i - f) i s) (2 ^ 48) (number_at 6 (node_size * i + 2) s) (2 ^ 256)
    ∙ rw e (ap (λ (a : ℕ). a % 2 ^ 256) (sym (digits_more (i - f) i s)))

pub digits-end : (i k n : ℕ) (s : List ℕ) → i ≡ n + 1 → digits (i - (n - k)) i s ≡ digits (suc k) (suc n) s
digits-end i k n s h = let e : i ≡ suc n = omega arith in rw e (by-test (leb k n) refl)
  where
    by-test : (b : Bool) → leb k n ≡ b → digits (suc n - (n - k)) (suc n) s ≡ digits (suc k) (suc n) s
    by-test true t = let g : k ≤ n = leb-true k n t in let e : suc n - (n - k) ≡ suc k = omega arith in rw e
    by-test false t =
        let g : n < k = leb-false k n t in
        let e : suc n - (n - k) ≡ suc n = omega arith in
        rw e (sym (digits-past (suc k) (suc n) s (omega arith)))

-- One record alone.
pub digits-one : (n k : ℕ) (s : List ℕ) {x : ℕ} → k ≡ 0 → x ≡ number_at 6 (node_size * n + 2) s → x < 2 ^ 48 → x ≡ digits (suc k) (suc n) s % 2 ^ 256
unfolding digits digit_length
digits-one n k s {x} e p h =
    let z : 0 * 2 ^ 48 + x ≡ x = omega arith in
    let l : x < 2 ^ 256 = lt_of_lt_of_le h (pow_mono {i = 48} {j = 256} (omega arith)) in
    rw (e, ← p, z) (sym (mod-eq_of_lt l))

-- ---- The value.

pub none-held : {x : Value} → x ≡ value 0 0 → value 0 0 ≡ held x
unfolding held
none-held e = rw e

pub value-held : (s : List ℕ) (n l : ℕ) {x : ℕ} → D.constant (value l (constant_number n s)) ≡ node_of s n
    → x ≡ digits (suc (get_or s (node_size * n + 1) 0 / 48)) (suc n) s % 2 ^ 256 → value l x ≡ held (constant_value (node_of s n))
unfolding held
value-held s n l e p =
    rw (← e, constant-digits n s, further-of (get_or s (node_size * n + 1) 0)) (ap (value l) p)
