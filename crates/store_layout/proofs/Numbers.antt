-- What `replaced` does to a number, bit by bit: two numbers with the same bits are the same. Assumes nothing.
use mathlib.Core.Path.{◌≡◌, sym, ap, ◌∙◌, subst}
use mathlib.Core.Logic.{⊎_elim}
use Prim.Native.Nat.{ℕ, zero, suc, ◌+◌, ◌-◌, ◌*◌, ◌/◌, ◌%◌, ◌^◌, ◌≤◌, ◌<◌, min}
use native.Mathlib.Nat.{add-zero, zero-add, div-one, div-eq_of_lt, eq-zero-or-pos, mod-lt, mod-one, mul-one, lt-mul-div-succ, zero-mul}
use native.Mathlib.Omega.{arith}
use lib.Arith.{half_le}
use lib.Pow.{field, high, low, mod-mod-pow, mod-pow-add, pow_mono, pow_pos, shr-shr, split}
use Rattle.language.specs.Value.{replaced}
use Rattle.store_layout.specs.Bits.{bit_of}

-- ---- Bits.

pub bit_high : (x a k : ℕ) → bit_of (x / 2 ^ a) k ≡ bit_of x (a + k)
unfolding bit_of
bit_high x a k = ap (λ (n : ℕ). n % 2) (shr-shr x a k)

pub bit-low : (x c k : ℕ) → k < c → bit_of (x % 2 ^ c) k ≡ bit_of x k
unfolding bit_of
bit-low x c k h =
    let e : c ≡ (c - k - 1) + 1 + k = omega arith in
    ap (λ (n : ℕ). x % 2 ^ n / 2 ^ k % 2) e ∙ ap (λ (n : ℕ). n % 2) (field x ((c - k - 1) + 1) k) ∙ mod-mod-pow (x / 2 ^ k) (c - k - 1) 1

pub bit-none : {x : ℕ} (c k : ℕ) → x < 2 ^ c → c ≤ k → bit_of x k ≡ 0
unfolding bit_of
bit-none {x} c k h l = ap (λ (n : ℕ). n % 2) (div-eq_of_lt (lt_of (pow_mono l) h))
  where
    lt_of : 2 ^ c ≤ 2 ^ k → x < 2 ^ c → x < 2 ^ k
    lt_of p q = omega arith

same-up-to : (n x y : ℕ) → x ≤ n → y ≤ n → ((k : ℕ) → bit_of x k ≡ bit_of y k) → x ≡ y
unfolding bit_of
same-up-to zero x y p q h = omega arith
same-up-to (suc n) x y p q h =
    let e : x / 2 ≡ y / 2 = same-up-to n (x / 2) (y / 2) (half_le p) (half_le q) (λ k. bit_high x 1 k ∙ h (1 + k) ∙ sym (bit_high y 1 k)) in
    let f : x % 2 ≡ y % 2 = ap (λ (m : ℕ). m % 2) (sym (div-one x)) ∙ h 0 ∙ ap (λ (m : ℕ). m % 2) (div-one y) in
    omega arith

pub same_bits : (x y : ℕ) → ((k : ℕ) → bit_of x k ≡ bit_of y k) → x ≡ y
same_bits x y h = same-up-to (x + y) x y (omega arith) (omega arith) h

-- Nothing above the m lowest bits.
pub below-pow : (x m : ℕ) → x / 2 ^ m ≡ 0 → x < 2 ^ m
below-pow x m z = subst (λ (n : ℕ). x < n) (ap (λ (n : ℕ). 2 ^ m * (n + 1)) z ∙ mul-one (2 ^ m)) (lt-mul-div-succ x (pow_pos m))

-- ---- Where a bit lies.

-- The bit k is one of c bits from `first` on, or is not.
pub data Spot (first c k : ℕ) : Type 0 where
  within : first ≤ k → k < first + c → Spot first c k
  outside : (first ≤ k → k < first + c → ⊥) → Spot first c k

pub spot : (first c k : ℕ) → Spot first c k
spot first c k = ⊎_elim
    (λ e. ⊎_elim (λ f. outside (λ p q. omega arith)) (λ l. within (omega arith) (omega arith)) (eq-zero-or-pos (first + c - k)))
    (λ l. outside (λ p q. omega arith))
    (eq-zero-or-pos (first - k))

-- ---- A part of a number.

pub part-bit : (x first c k : ℕ) → k < c → bit_of (x / 2 ^ first % 2 ^ c) k ≡ bit_of x (first + k)
part-bit x first c k h = bit-low (x / 2 ^ first) c k h ∙ bit_high x first k

pub part_none : (x first c k : ℕ) → c ≤ k → bit_of (x / 2 ^ first % 2 ^ c) k ≡ 0
part_none x first c k h = bit-none c k (mod-lt (x / 2 ^ first) (pow_pos c)) h

-- Two numbers have the same part where they have the same bits there.
pub part_same : (x y first c : ℕ) → ((k : ℕ) → first ≤ k → k < first + c → bit_of x k ≡ bit_of y k) → x / 2 ^ first % 2 ^ c ≡ y / 2 ^ first % 2 ^ c
part_same x y first c h = same_bits _ _ (λ k. go k (spot 0 c k))
  where
    go : (k : ℕ) → Spot 0 c k → bit_of (x / 2 ^ first % 2 ^ c) k ≡ bit_of (y / 2 ^ first % 2 ^ c) k
    go k (within p q) = part-bit x first c k (omega arith) ∙ h (first + k) (omega arith) (omega arith) ∙ sym (part-bit y first c k (omega arith))
    go k (outside n) =
        let l : c ≤ k = ⊎_elim (λ e. omega arith) (λ l. absurd (n (omega arith) (omega arith))) (eq-zero-or-pos (c - k)) in
        part_none x first c k l ∙ sym (part_none y first c k l)

-- ---- A number with a part replaced.

module _ (w first c v : ℕ) where
  upper : replaced w first c v / 2 ^ first ≡ w / 2 ^ (first + c) * 2 ^ c + v % 2 ^ c
  unfolding replaced
  upper = high (w / 2 ^ (first + c) * 2 ^ c + v % 2 ^ c) first (mod-lt w (pow_pos first))

  -- What is put there is found there.
  pub part-replaced : replaced w first c v / 2 ^ first % 2 ^ c ≡ v % 2 ^ c
  part-replaced = ap (λ (n : ℕ). n % 2 ^ c) upper ∙ low (w / 2 ^ (first + c)) c (mod-lt v (pow_pos c))

  pub bits_above : replaced w first c v / 2 ^ (first + c) ≡ w / 2 ^ (first + c)
  bits_above = sym (shr-shr (replaced w first c v) first c) ∙ ap (λ (n : ℕ). n / 2 ^ c) upper ∙ high (w / 2 ^ (first + c)) c (mod-lt v (pow_pos c))

  bits_below : replaced w first c v % 2 ^ first ≡ w % 2 ^ first
  unfolding replaced
  bits_below = low (w / 2 ^ (first + c) * 2 ^ c + v % 2 ^ c) first (mod-lt w (pow_pos first))

  pub bit-within : (k : ℕ) → first ≤ k → k < first + c → bit_of (replaced w first c v) k ≡ bit_of v (k - first)
  bit-within k p q =
      let e : k ≡ first + (k - first) = omega arith in
      ap (bit_of (replaced w first c v)) e ∙ sym (part-bit (replaced w first c v) first c (k - first) (omega arith))
      ∙ ap (λ (n : ℕ). bit_of n (k - first)) part-replaced ∙ bit-low v c (k - first) (omega arith)

  bit-before : (k : ℕ) → k < first → bit_of (replaced w first c v) k ≡ bit_of w k
  bit-before k p = sym (bit-low (replaced w first c v) first k p) ∙ ap (λ (n : ℕ). bit_of n k) bits_below ∙ bit-low w first k p

  bit-after : (k : ℕ) → first + c ≤ k → bit_of (replaced w first c v) k ≡ bit_of w k
  bit-after k p =
      let e : k ≡ first + c + (k - (first + c)) = omega arith in
      ap (bit_of (replaced w first c v)) e ∙ sym (bit_high (replaced w first c v) (first + c) (k - (first + c))) ∙ ap (λ (n : ℕ). bit_of n (k - (first + c))) bits_above
      ∙ bit_high w (first + c) (k - (first + c)) ∙ ap (bit_of w) (sym e)

  pub bit-outside : (k : ℕ) → (first ≤ k → k < first + c → ⊥) → bit_of (replaced w first c v) k ≡ bit_of w k
  bit-outside k n = ⊎_elim
      (λ e. bit-after k (⊎_elim (λ f. omega arith) (λ l. absurd (n (omega arith) (omega arith))) (eq-zero-or-pos (first + c - k))))
      (λ l. bit-before k (omega arith))
      (eq-zero-or-pos (first - k))

  -- It stays below a power that the part does not reach.
  pub replaced-lt : (m : ℕ) → first + c ≤ m → w < 2 ^ m → replaced w first c v < 2 ^ m
  replaced-lt m h l =
      let e : m ≡ first + c + (m - (first + c)) = omega arith in
      let z : replaced w first c v / 2 ^ m ≡ 0 =
      ap (λ (n : ℕ). replaced w first c v / 2 ^ n) e ∙ sym (shr-shr (replaced w first c v) (first + c) (m - (first + c)))
      ∙ ap (λ (n : ℕ). n / 2 ^ (m - (first + c))) bits_above ∙ shr-shr w (first + c) (m - (first + c)) ∙ ap (λ (n : ℕ). w / 2 ^ n) (sym e) ∙ div-eq_of_lt l
      in
      below-pow (replaced w first c v) m z

pub replaced-none : (w first v : ℕ) → replaced w first 0 v ≡ w
unfolding replaced
replaced-none w first v = rw (add-zero first, mul-one (w / 2 ^ first), mod-one v, add-zero (w / 2 ^ first)) (split w first)

-- A part in two parts.
pub replaced-cat : (w first a n v : ℕ) → replaced (replaced w (first + a) n (v / 2 ^ a)) first a v ≡ replaced w first (a + n) v
replaced-cat w first a n v = same_bits _ _ (λ k. go k (spot first a k) (spot (first + a) n k))
  where
    u : ℕ
    u = replaced w (first + a) n (v / 2 ^ a)

    go : (k : ℕ) → Spot first a k → Spot (first + a) n k → bit_of (replaced u first a v) k ≡ bit_of (replaced w first (a + n) v) k
    go k (within p q) s = bit-within u first a v k p q ∙ sym (bit-within w first (a + n) v k p (omega arith))
    go k (outside p) (within q r) =
        let e : a + (k - (first + a)) ≡ k - first = omega arith in
        bit-outside u first a v k p ∙ bit-within w (first + a) n (v / 2 ^ a) k q r ∙ bit_high v a (k - (first + a)) ∙ ap (bit_of v) e
        ∙ sym (bit-within w first (a + n) v k (omega arith) (omega arith))
    go k (outside p) (outside q) =
        bit-outside u first a v k p ∙ bit-outside w (first + a) n (v / 2 ^ a) k q
        ∙ sym (bit-outside w first (a + n) v k (λ r s. ⊎_elim (λ e. q (omega arith) (omega arith)) (λ l. p r (omega arith)) (eq-zero-or-pos (first + a - k))))

-- Two parts that have no bit in common.
abbrev pub Apart : ℕ → ℕ → ℕ → ℕ → Type 0
Apart first c first' c' = (k : ℕ) → first ≤ k → k < first + c → first' ≤ k → k < first' + c' → ⊥

module _ (w first c v first' c' : ℕ) (apart : Apart first c first' c') where
  pub part_apart : replaced w first c v / 2 ^ first' % 2 ^ c' ≡ w / 2 ^ first' % 2 ^ c'
  part_apart = part_same (replaced w first c v) w first' c' (λ k p q. bit-outside w first c v k (λ h l. apart k h l p q))

  pub replaced-commute : (v' : ℕ) → replaced (replaced w first c v) first' c' v' ≡ replaced (replaced w first' c' v') first c v
  replaced-commute v' = same_bits _ _ (λ k. go k (spot first c k) (spot first' c' k))
    where
      x : ℕ
      x = replaced w first c v

      y : ℕ
      y = replaced w first' c' v'

      go : (k : ℕ) → Spot first c k → Spot first' c' k → bit_of (replaced x first' c' v') k ≡ bit_of (replaced y first c v) k
      go k (within p q) s =
          bit-outside x first' c' v' k (λ a b. apart k p q a b) ∙ bit-within w first c v k p q ∙ sym (bit-within y first c v k p q)
      go k (outside n) (within p q) =
          bit-within x first' c' v' k p q ∙ sym (bit-outside y first c v k n ∙ bit-within w first' c' v' k p q)
      go k (outside n) (outside m) =
          bit-outside x first' c' v' k m ∙ bit-outside w first c v k n ∙ sym (bit-outside y first c v k n ∙ bit-outside w first' c' v' k m)

-- A part that lies in one digit of d bits, whose place is p.
pub replaced-in-digit : (w p d s n v : ℕ) → s + n ≤ d → replaced w p d (replaced (w / 2 ^ p % 2 ^ d) s n v) ≡ replaced w (p + s) n v
replaced-in-digit w p d s n v h = same_bits _ _ (λ k. go k (spot p d k) (spot (p + s) n k))
  where
    b : ℕ
    b = w / 2 ^ p % 2 ^ d

    y : ℕ
    y = replaced b s n v

    back : (k : ℕ) → p ≤ k → k < p + d → bit_of b (k - p) ≡ bit_of w k
    back k q r = let e : p + (k - p) ≡ k = omega arith in part-bit w p d (k - p) (omega arith) ∙ ap (bit_of w) e

    go : (k : ℕ) → Spot p d k → Spot (p + s) n k → bit_of (replaced w p d y) k ≡ bit_of (replaced w (p + s) n v) k
    go k (outside m) t = bit-outside w p d y k m ∙ sym (bit-outside w (p + s) n v k (λ q r. m (omega arith) (omega arith)))
    go k (within q r) (outside m) =
        bit-within w p d y k q r ∙ bit-outside b s n v (k - p) (λ a c. m (omega arith) (omega arith)) ∙ back k q r ∙ sym (bit-outside w (p + s) n v k m)
    go k (within q r) (within t u) =
        let e : k - p - s ≡ k - (p + s) = omega arith in
        bit-within w p d y k q r ∙ bit-within b s n v (k - p) (omega arith) (omega arith) ∙ ap (bit_of v) e ∙ sym (bit-within w (p + s) n v k t u)

-- ---- Limbs of j bits: the lowest, and those above it.

pub bit-cat : (j Y : ℕ) {x : ℕ} (k : ℕ) → x < 2 ^ j → k < j → bit_of (Y * 2 ^ j + x) k ≡ bit_of x k
bit-cat j Y {x} k h l = sym (bit-low (Y * 2 ^ j + x) j k l) ∙ ap (λ (n : ℕ). bit_of n k) (low Y j h)

-- A limb is replaced, and then the limbs above it.
pub replaced-limb : (j w first n Y : ℕ) {x : ℕ} → x < 2 ^ j
    → replaced w first n (Y * 2 ^ j + x) ≡ replaced (replaced w first (min n j) x) (first + min n j) (n - min n j) Y
replaced-limb j w first n Y {x} h = same_bits _ _ (λ k. go k (spot first (min n j) k) (spot (first + min n j) (n - min n j) k))
  where
    u : ℕ
    u = replaced w first (min n j) x

    v : ℕ
    v = Y * 2 ^ j + x

    go : (k : ℕ) → Spot first (min n j) k → Spot (first + min n j) (n - min n j) k → bit_of (replaced w first n v) k ≡ bit_of (replaced u (first + min n j) (n - min n j) Y) k
    go k (within p q) (within r s) = absurd (omega arith)
    go k (within p q) (outside m) =
        bit-within w first n v k p (omega arith) ∙ bit-cat j Y (k - first) h (omega arith)
        ∙ sym (bit-outside u (first + min n j) (n - min n j) Y k m ∙ bit-within w first (min n j) x k p q)
    go k (outside m) (within r s) =
        let e : k - first ≡ j + (k - (first + min n j)) = omega arith in
        bit-within w first n v k (omega arith) (omega arith) ∙ ap (bit_of v) e ∙ sym (bit_high v j (k - (first + min n j)))
        ∙ ap (λ (i : ℕ). bit_of i (k - (first + min n j))) (high Y j h) ∙ sym (bit-within u (first + min n j) (n - min n j) Y k r s)
    go k (outside m) (outside o) =
        bit-outside w first n v k (λ p q. ⊎_elim (λ e. o (omega arith) (omega arith)) (λ l. m p (omega arith)) (eq-zero-or-pos (first + min n j - k)))
        ∙ sym (bit-outside u (first + min n j) (n - min n j) Y k o ∙ bit-outside w first (min n j) x k m)

-- The lowest limb of a part, and the limbs above it.
pub part-limb : (j X n : ℕ) → X % 2 ^ n ≡ (X / 2 ^ min n j % 2 ^ (n - min n j)) * 2 ^ j + X % 2 ^ min n j
part-limb j X n = ⊎_elim (λ e. short (omega arith)) (λ l. long (omega arith, omega arith)) (eq-zero-or-pos (n - j))
  where
    short : min n j ≡ n → X % 2 ^ n ≡ (X / 2 ^ min n j % 2 ^ (n - min n j)) * 2 ^ j + X % 2 ^ min n j
    short e =
        let z : n - n ≡ 0 = omega arith in
        rw (e, z, mod-one (X / 2 ^ n), zero-mul (2 ^ j)) (sym (zero-add (X % 2 ^ n)))

    long : (n ≡ (n - j) + j) × (min n j ≡ j) → X % 2 ^ n ≡ (X / 2 ^ min n j % 2 ^ (n - min n j)) * 2 ^ j + X % 2 ^ min n j
    long e = rw e.1 (ap (λ (m : ℕ). X % 2 ^ m) e.0 ∙ mod-pow-add X (n - j) j)
