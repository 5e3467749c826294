-- Numbers in decimal: what their digits stand for, how many there are, and that they are written from the last one to the first. Assumes nothing.
use mathlib.Core.Bool.{Bool, true, false, cond}
use mathlib.Core.List.{List, [], ◌∷◌, map}
use mathlib.Core.Path.{◌≡◌, refl, sym, ap, ◌∙◌}
use Prim.Native.Nat.{ℕ, zero, suc, ◌+◌, ◌*◌, ◌-◌, ◌/◌, ◌%◌, ◌^◌, ◌<◌}
use native.Mathlib.Nat.{pow-suc}
use native.Mathlib.Omega.{arith}
use borrow.Author.Tests.{eq-eqb, eqb-true, ne_eqb}
use lib.Dec.{eqb}
use lib.ListN.{drop, length, length-set, set}
use lib.Seq.{drop-cons, drop-set-lt, get_or-set_same}
use Rattle.language.specs.Constants.{digits_after, digits_number}
use Rattle.language.specs.Trace.{decimal, decimal_from}

-- ---- How many digits are enough: as many as the number has.

digit-alone : (k n : ℕ) (tail : List ℕ) → n < 10 → decimal_from (suc k) n tail ≡ (n % 10 + 48) ∷ tail
unfolding decimal_from
digit-alone k n tail h = rw (eq-eqb (n / 10) 0 (omega arith)) refl

digits_same : (j k n : ℕ) (tail : List ℕ) → n < 10 ^ suc j → n < 10 ^ suc k → decimal_from (suc j) n tail ≡ decimal_from (suc k) n tail
unfolding decimal_from
digits_same zero k n tail i h = digit-alone 0 n tail i ∙ sym (digit-alone k n tail i)
digits_same (suc j) zero n tail i h = digit-alone (suc j) n tail h ∙ sym (digit-alone 0 n tail h)
digits_same (suc j) (suc k) n tail i h =
    ap (λ (more : List ℕ). cond (eqb (n / 10) 0) ((n % 10 + 48) ∷ tail) more)
    (digits_same j k (n / 10) ((n % 10 + 48) ∷ tail) (omega (arith, pow-suc 10 (suc j))) (omega (arith, pow-suc 10 (suc k))))

below_power : (n : ℕ) → n < 10 ^ n
below_power zero = omega arith
below_power (suc n) = omega (arith, below_power n, pow-suc 10 n)

pub digits-enough : (k n : ℕ) → n < 10 ^ suc k → decimal_from (suc k) n [] ≡ decimal n
digits-enough k n h = digits_same k n n [] h (omega (arith, below_power n, pow-suc 10 n))

-- 20 for a number of 64 bits.
pub twenty-enough : (n : ℕ) → n < 2 ^ 64 → decimal_from 20 n [] ≡ decimal n
twenty-enough n h = digits-enough 19 n (omega arith)

-- ---- The digits of a number stand for it.

abbrev worths : List ℕ → List ℕ
worths = map (λ (b : ℕ). b - 48)

digit-worth : (base n d : ℕ) (ds : List ℕ) → digits_after base n (worths ((d + 48) ∷ ds)) ≡ digits_after base (n * base + d) (worths ds)
unfolding digits_after
digit-worth base n d ds = ap (λ (e : ℕ). digits_after base (n * base + e) (worths ds)) (omega arith)

digits-mean : (k n : ℕ) (tail : List ℕ) → n < 10 ^ suc k → digits_number 10 (worths (decimal_from (suc k) n tail)) ≡ digits_after 10 n (worths tail)
unfolding decimal_from
digits-mean zero n tail h =
    ap (λ (ds : List ℕ). digits_number 10 (worths ds)) (digit-alone 0 n tail h) ∙ (digit-worth 10 0 (n % 10) tail ∙ ap (λ (m : ℕ). digits_after 10 m (worths tail)) (omega arith))
digits-mean (suc k) n tail h = go (eqb (n / 10) 0) refl (digits-mean k (n / 10) ((n % 10 + 48) ∷ tail) (omega (arith, pow-suc 10 (suc k))))
  where
    go : (b : Bool) → eqb (n / 10) 0 ≡ b → digits_number 10 (worths (decimal_from (suc k) (n / 10) ((n % 10 + 48) ∷ tail))) ≡ digits_after 10 (n / 10) (worths ((n % 10 + 48) ∷ tail))
        → digits_number 10 (worths (cond b ((n % 10 + 48) ∷ tail) (decimal_from (suc k) (n / 10) ((n % 10 + 48) ∷ tail)))) ≡ digits_after 10 n (worths tail)
    go true e i =
        digit-worth 10 0 (n % 10) tail ∙ ap (λ (m : ℕ). digits_after 10 m (worths tail)) (omega (arith, eqb-true (n / 10) 0 e))
    go false e i = i ∙ (digit-worth 10 (n / 10) (n % 10) tail ∙ ap (λ (m : ℕ). digits_after 10 m (worths tail)) (omega arith))

pub decimal-means : (n : ℕ) → digits_number 10 (worths (decimal n)) ≡ n
unfolding digits_after
decimal-means n = digits-mean n n [] (omega (arith, below_power n, pow-suc 10 n))

-- ---- As they are written.

module _ (s : List ℕ) (k n : ℕ) (h : k < length s) where
  abbrev new : List ℕ
  new = set s k (n % 10 + 48)

  digit-here : drop k new ≡ (n % 10 + 48) ∷ drop (suc k) s
  digit-here =
      drop-cons new k 0 (rw (length-set s k (n % 10 + 48)) h)
      ∙ (ap (λ (b : ℕ). b ∷ drop (suc k) new) (get_or-set_same s k (n % 10 + 48) 0 h) ∙ ap (λ (t : List ℕ). (n % 10 + 48) ∷ t) (drop-set-lt (suc k) s k (n % 10 + 48) (omega arith)))

  -- The first digit.
  pub digit-last : n / 10 ≡ 0 → drop k new ≡ decimal_from (suc k) n (drop (suc k) s)
  unfolding decimal_from
  digit-last e = digit-here ∙ rw (eq-eqb (n / 10) 0 e) refl

  -- Any other.
  pub digit-more : (n / 10 ≡ 0 → ⊥) → decimal_from k (n / 10) (drop k new) ≡ decimal_from (suc k) n (drop (suc k) s)
  unfolding decimal_from
  digit-more e = ap (decimal_from k (n / 10)) digit-here ∙ rw (ne_eqb (n / 10) 0 e) refl

-- The loop's place before it falls by one.
pub one-back : (k : ℕ) → 0 < k → k ≡ suc (k - 1)
one-back k h = omega arith
