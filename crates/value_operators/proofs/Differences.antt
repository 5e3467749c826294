-- (-) in plain numbers (02, ticket 1): a difference is exact with its sign, its first bit tells a borrow, and a negation is a difference from zero.
use mathlib.Core.Bool.{Bool, true, false, cond}
use mathlib.Core.Path.{◌≡◌, sym, ap, ap₂, ◌∙◌, subst}
use mathlib.Core.Logic.{⊎_elim}
use Prim.Native.Nat.{ℕ, ◌+◌, ◌-◌, ◌*◌, ◌/◌, ◌%◌, ◌^◌, ◌≤◌, ◌<◌, max}
use native.Mathlib.Nat.{add-mod_right, div-eq_of_lt, eq-zero-or-pos, lt_trans, mod-eq_of_lt}
use native.Mathlib.Omega.{arith}
use lib.Dec.{leb, ltb}
use lib.Pow.{high, pow-add, pow-lt, pow_pos}
use borrow.Author.Tests.{le-leb, le-ltb, lt-leb, lt-ltb}
use Rattle.language.specs.Ceilings.{longest}
use Rattle.language.specs.Value.{Value, bit, difference, difference_length, difference_number, fit, head, made, negation, negation_length, none, value}
use Rattle.value_operators.specs.Meaning.{allowed}
use Rattle.value_operators.proofs.Fits.{fit-cond}
use Rattle.value_operators.proofs.Plain.{Normal, difference-normal, head-leading, longer-x, longer-y}

-- The bits of a difference: one more than the longer operand has.
abbrev pub bits : Value → Value → ℕ
bits x y = max x.length y.length + 1

-- x - y where y is not the larger, and else 2 to the l less y - x.
abbrev pub signed : ℕ → ℕ → ℕ → ℕ
signed l x y = cond (leb y x) (x - y) (2 ^ l - (y - x))

-- A difference modulo 2 to the l of two numbers of l bits.
less-modulo : (l x y : ℕ) → x < 2 ^ l → y < 2 ^ l → (x + (2 ^ l - y % 2 ^ l)) % 2 ^ l ≡ signed l x y
less-modulo l x y hx hy =
    ap (λ (n : ℕ). (x + (P - n)) % P) (mod-eq_of_lt hy) ∙ ⊎_elim (λ e. large (omega arith)) (λ e. small (omega arith)) (eq-zero-or-pos (y - x))
  where
    P : ℕ
    P = 2 ^ l

    large : y ≤ x → (x + (P - y)) % P ≡ signed l x y
    large h =
        let e : x + (P - y) ≡ (x - y) + P = omega arith in
        ap (λ (n : ℕ). n % P) e ∙ add-mod_right (x - y) P ∙ mod-eq_of_lt (omega arith) ∙ sym (ap (λ (b : Bool). cond b (x - y) (P - (y - x))) (le-leb y x h))

    small : x < y → (x + (P - y)) % P ≡ signed l x y
    small h =
        let e : x + (P - y) ≡ P - (y - x) = omega arith in
        mod-eq_of_lt (omega arith) ∙ e ∙ sym (ap (λ (b : Bool). cond b (x - y) (P - (y - x))) (lt-leb y x h))

-- A length of some bits is allowed up to 256.
allowed-more : (l : ℕ) → allowed (l + 1) ≡ leb (l + 1) 256
unfolding allowed longest
allowed-more l = ap (λ (b : Bool). cond b (leb (l + 1) 256) false) (lt-ltb 0 (l + 1) (omega arith))

-- The first of l + 1 bits of a difference of numbers of l bits.
borrow-bit : (l x y : ℕ) → x < 2 ^ l → y < 2 ^ l → signed (l + 1) x y / 2 ^ l ≡ bit (ltb x y)
borrow-bit l x y hx hy = ⊎_elim (λ e. large (omega arith)) (λ e. small (omega arith)) (eq-zero-or-pos (y - x))
  where
    large : y ≤ x → signed (l + 1) x y / 2 ^ l ≡ bit (ltb x y)
    large h = rw (le-leb y x h, le-ltb x y h) (div-eq_of_lt (omega arith))

    small : x < y → signed (l + 1) x y / 2 ^ l ≡ bit (ltb x y)
    small h =
        let p : 2 ^ (l + 1) ≡ 2 ^ l * 2 = pow-add 2 l 1 in
        let e : 2 ^ (l + 1) - (y - x) ≡ 1 * 2 ^ l + (2 ^ l - (y - x)) = omega arith in
        rw (lt-leb y x h, lt-ltb x y h) (ap (λ (n : ℕ). n / 2 ^ l) e ∙ high 1 l (omega arith))

-- What a difference d of x and y tells of their numbers.
pub record Tells (x y d : Value) : Type 0 where
  pub borrow : head d 1 ≡ made (value 1 (bit (ltb x.number y.number)))
  pub zero-equal : d.number ≡ 0 → x.number ≡ y.number
  pub equal-zero : x.number ≡ y.number → d.number ≡ 0

module _ (x y : Value) (hx : Normal x) (hy : Normal y) where
  abbrev l : ℕ
  l = max x.length y.length

  more : 2 ^ l < 2 ^ (l + 1)
  more = pow-lt (omega arith)

  -- A difference has max(m, n) + 1 bits and is the exact signed difference in two's complement; where that would pass 256 bits there is none.
  pub difference-signed : difference x y ≡ cond (leb (bits x y) 256) (made (value (bits x y) (signed (bits x y) x.number y.number))) none
  unfolding difference difference_length difference_number
  difference-signed =
      let P = 2 ^ (l + 1) in
      fit-cond (l + 1) (x.number + (P - y.number % P))
      ∙ ap₂ (λ (b : Bool) (n : ℕ). cond b (made (value (l + 1) n)) none) (allowed-more l) (less-modulo (l + 1) x.number y.number (lt_trans (longer-x x y hx hy) more) (lt_trans (longer-y x y hx hy) more))

  abbrev d : Value
  d = value (l + 1) (signed (l + 1) x.number y.number)

  told : Normal d → Tells x y d
  told h =
      let e : l + 1 - 1 ≡ l = omega arith in
      let f = longer-x x y hx hy in
      let g = longer-y x y hx hy in
      record {
        borrow = head-leading d h 1 (omega arith) (omega arith) ∙ ap (λ (n : ℕ). made (value 1 n)) (ap (λ (k : ℕ). d.number / 2 ^ k) e ∙ borrow-bit l x.number y.number f g);
        zero-equal = λ z. ⊎_elim (λ q. large (omega arith) z) (λ q. small (omega arith) z) (eq-zero-or-pos (y.number - x.number));
        equal-zero = λ q. let r : y.number ≤ x.number = omega arith in rw (le-leb y.number x.number r) (omega arith);
      }
    where
      large : y.number ≤ x.number → d.number ≡ 0 → x.number ≡ y.number
      large h z = let q = rw (le-leb y.number x.number h) at z in omega arith

      small : x.number < y.number → d.number ≡ 0 → x.number ≡ y.number
      small h z =
          let q = rw (lt-leb y.number x.number h) at z in
          let g = longer-y x y hx hy in
          let m = more in
          absurd (omega arith)

  -- The first bit of a difference is one exactly when the left number is the smaller, and the whole is zero exactly when the numbers are equal.
  pub difference-first : {v : Value} → difference x y ≡ made v → Tells x y v
  difference-first {v} e = by (leb (l + 1) 256) (sym difference-signed ∙ e)
    where
      by : (b : Bool) → cond b (made d) none ≡ made v → Tells x y v
      by true q =
          let r : d ≡ v = cc in
          subst (Tells x y) r (told (subst Normal (sym r) (difference-normal x y v e)))
      by false q =
          let z : ◌≡◌ {A = ℕ} 0 1 = cc in
          absurd (omega arith)

-- A negation is the difference of a zero of the operand's length and the operand.
pub negation-from-zero : (x : Value) → negation x ≡ difference (value x.length 0) x
unfolding negation negation_length difference difference_length
negation-from-zero x =
    let e : x.length ≡ max x.length x.length = omega arith in
    ap (λ (m : ℕ). fit (m + 1) (difference_number (m + 1) 0 x.number)) e

-- Of a negation the first bit is one exactly when its operand is not zero, and the whole is zero exactly when the operand is.
pub negation-first : (x : Value) → Normal x → {v : Value} → negation x ≡ made v → Tells (value x.length 0) x v
negation-first x h e = difference-first (value x.length 0) x (record { below = pow_pos x.length; some = h.some; most = h.most }) h (sym (negation-from-zero x) ∙ e)
