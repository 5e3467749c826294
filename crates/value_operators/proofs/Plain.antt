-- What the operators but (-) say of normal values, those whose number is below 2 to their length, in the papers' words; (-) stands in Differences.
use mathlib.Core.Bool.{Bool, true, false, cond}
use mathlib.Core.Path.{◌≡◌, refl, sym, ap, ◌∙◌, subst}
use Prim.Native.Nat.{ℕ, ◌+◌, ◌-◌, ◌*◌, ◌/◌, ◌%◌, ◌^◌, ◌≤◌, ◌<◌, max}
use native.Mathlib.Nat.{mod-eq_of_lt, mod-lt, lt_of_lt_of_le, le_trans, le-max_left, le-max_right, max-le, add-sub_of_le}
use native.Mathlib.Numerals.{add-one}
use native.Mathlib.Omega.{arith}
use lib.Arith.{digits_lt}
use lib.Bits.{bit_and, bit_or, bit_xor, and_lt, or_lt, xor_lt}
use lib.Count.{ones, ones-le}
use lib.Pow.{pow-add, pow_mono, pow_pos, add-lt-pow, shr_lt, split, ones_sub-lt}
use borrow.Author.Tests.{le-leb}
use Rattle.language.specs.Value.{Value, value, made, none, fit, sum, sum_length, difference, negation, complement, complement_length, complement_number, conjunction, exclusive, disjunction, logical_length, join, join_length, head, tail, cut_length, or_reduction, and_reduction, exclusive_reduction, sum_reduction, count_length, extended, part, equal, unequal, less, greater, at_most, at_least, related, relation_length, bit}
use Rattle.language.specs.Ceilings.{longest}
use Rattle.value_operators.specs.Meaning.{allowed}
use Rattle.value_operators.proofs.Fits.{fit-cond, fit-allowed, allowed-le, allowed-some, allowed_of}

pub record Normal (x : Value) : Type 0 where
  pub below : x.number < 2 ^ x.length
  pub some : 1 ≤ x.length
  pub most : x.length ≤ 256

-- ---- Every operator's result is normal, since `fit` makes it.

pub fit-normal : (l n : ℕ) {v : Value} → fit l n ≡ made v → Normal v
fit-normal l n {v} e = by (allowed l) refl (sym (fit-cond l n) ∙ e)
  where
    by : (b : Bool) → allowed l ≡ b → cond b (made (value l (n % 2 ^ l))) none ≡ made v → Normal v
    by true a f =
        let p : value l (n % 2 ^ l) ≡ v = cc in
        subst Normal p (record { below = mod-lt n (pow_pos l); some = allowed-some l a; most = allowed-le l a })
    by false a f =
        let z : ◌≡◌ {A = ℕ} 0 1 = cc in
        absurd (omega arith)

-- ---- A number that fits is not cut.

exact : {l n : ℕ} → 1 ≤ l → l ≤ 256 → n < 2 ^ l → fit l n ≡ made (value l n)
exact {l} {n} h k b = fit-allowed l n (allowed_of l h k) ∙ ap (λ (m : ℕ). made (value l m)) (mod-eq_of_lt b)

modulo : {l k : ℕ} (n : ℕ) → 1 ≤ l → l ≤ 256 → n % 2 ^ l ≡ k → fit l n ≡ made (value l k)
modulo {l} n h k e = fit-allowed l n (allowed_of l h k) ∙ ap (λ (m : ℕ). made (value l m)) e

-- ---- Two operands, of m and n bits.

module _ (x y : Value) (hx : Normal x) (hy : Normal y) where
  pub longer-x : x.number < 2 ^ max x.length y.length
  longer-x = lt_of_lt_of_le hx.below (pow_mono (le-max_left x.length y.length))

  pub longer-y : y.number < 2 ^ max x.length y.length
  longer-y = lt_of_lt_of_le hy.below (pow_mono (le-max_right x.length y.length))

  some : 1 ≤ max x.length y.length
  some = le_trans hx.some (le-max_left x.length y.length)

  most : max x.length y.length ≤ 256
  most = max-le hx.most hy.most

  -- A sum is exact.
  pub sum-exact : max x.length y.length < 256 → sum x y ≡ made (value (max x.length y.length + 1) (x.number + y.number))
  unfolding sum sum_length
  sum-exact h =
      let l = max x.length y.length in
      exact (omega arith) (omega arith) (subst (λ (k : ℕ). x.number + y.number < 2 ^ k) (sym (add-one l)) (add-lt-pow l longer-x longer-y))

  -- The logical operators work bit by bit on the longer length.
  pub conjunction-exact : conjunction x y ≡ made (value (max x.length y.length) (bit_and x.number y.number))
  unfolding conjunction logical_length
  conjunction-exact = exact some most (and_lt (max x.length y.length) x.number y.number longer-x longer-y)

  pub exclusive-exact : exclusive x y ≡ made (value (max x.length y.length) (bit_xor x.number y.number))
  unfolding exclusive logical_length
  exclusive-exact = exact some most (xor_lt (max x.length y.length) x.number y.number longer-x longer-y)

  pub disjunction-exact : disjunction x y ≡ made (value (max x.length y.length) (bit_or x.number y.number))
  unfolding disjunction logical_length
  disjunction-exact = exact some most (or_lt (max x.length y.length) x.number y.number longer-x longer-y)

  -- CON puts the left operand in front.
  pub join-exact : x.length + y.length ≤ 256 → join x y ≡ made (value (x.length + y.length) (x.number * 2 ^ y.length + y.number))
  unfolding join join_length
  join-exact h =
      let p = hx.some in
      exact (omega arith) h (subst (λ (k : ℕ). x.number * 2 ^ y.length + y.number < k) (sym (pow-add 2 x.length y.length)) (digits_lt hx.below hy.below))

-- ---- One operand, of m bits.

module _ (x : Value) (h : Normal x) where
  pub complement-exact : complement x ≡ made (value x.length (2 ^ x.length - 1 - x.number))
  unfolding complement complement_length complement_number
  complement-exact =
      exact h.some h.most (ones_sub-lt x.length (x.number % 2 ^ x.length)) ∙ ap (λ (k : ℕ). made (value x.length (2 ^ x.length - 1 - k))) (mod-eq_of_lt h.below)

  -- The number of one bits, as a 16-bit value.
  pub count-exact : sum_reduction x ≡ made (value 16 (ones x.number))
  unfolding sum_reduction count_length
  count-exact =
      let l = ones-le x.length x.number h.below in
      let p = h.most in
      exact (omega arith) (omega arith) (omega arith)

  module _ (c : ℕ) (some_bits : 1 ≤ c) (fits : c ≤ x.length) where
    -- HEAD c is the c leading bits, TAIL c the c trailing ones.
    pub head-leading : head x c ≡ made (value c (x.number / 2 ^ (x.length - c)))
    unfolding head cut_length
    head-leading =
        ap (λ (b : Bool). fit (cond b c 0) (x.number / 2 ^ (x.length - c))) (le-leb c x.length fits)
        ∙ exact some_bits (le_trans fits h.most) (shr_lt c (x.length - c) (subst (λ (k : ℕ). x.number < 2 ^ k) (sym (add-sub_of_le fits)) h.below))

    pub tail-trailing : tail x c ≡ made (value c (x.number % 2 ^ c))
    unfolding tail cut_length
    tail-trailing = ap (λ (b : Bool). fit (cond b c 0) x.number) (le-leb c x.length fits) ∙ modulo x.number some_bits (le_trans fits h.most) refl

  -- A part is its bits.
  pub part-bits : (from count : ℕ) → 1 ≤ count → from + count ≤ x.length → part x from count ≡ made (value count (x.number / 2 ^ (x.length - (from + count)) % 2 ^ count))
  unfolding part
  part-bits from count some_bits fits =
      let n = x.number / 2 ^ (x.length - (from + count)) in
      let l = h.most in
      ap (λ (b : Bool). fit (cond b count 0) n) (le-leb (from + count) x.length fits) ∙ modulo n some_bits (omega arith) refl

  -- The leading bits and those behind them are all of x.
  pub head-and-tail : (c : ℕ) → x.number / 2 ^ c * 2 ^ c + x.number % 2 ^ c ≡ x.number
  head-and-tail c = split x.number c

-- A relation is one bit.
pub related-exact : (b : Bool) → related b ≡ made (value 1 (bit b))
unfolding related relation_length fit longest
related-exact true = refl
related-exact false = refl

-- ---- Operator by operator, the result is normal.

module _ (x y v : Value) where
  pub sum-normal : sum x y ≡ made v → Normal v
  unfolding sum
  sum-normal = fit-normal _ _

  pub difference-normal : difference x y ≡ made v → Normal v
  unfolding difference
  difference-normal = fit-normal _ _

  pub conjunction-normal : conjunction x y ≡ made v → Normal v
  unfolding conjunction
  conjunction-normal = fit-normal _ _

  pub exclusive-normal : exclusive x y ≡ made v → Normal v
  unfolding exclusive
  exclusive-normal = fit-normal _ _

  pub disjunction-normal : disjunction x y ≡ made v → Normal v
  unfolding disjunction
  disjunction-normal = fit-normal _ _

  pub join-normal : join x y ≡ made v → Normal v
  unfolding join
  join-normal = fit-normal _ _

  pub equal-normal : equal x y ≡ made v → Normal v
  unfolding equal related
  equal-normal = fit-normal _ _

  pub unequal-normal : unequal x y ≡ made v → Normal v
  unfolding unequal related
  unequal-normal = fit-normal _ _

  pub less-normal : less x y ≡ made v → Normal v
  unfolding less related
  less-normal = fit-normal _ _

  pub greater-normal : greater x y ≡ made v → Normal v
  unfolding greater related
  greater-normal = fit-normal _ _

  pub at-most-normal : at_most x y ≡ made v → Normal v
  unfolding at_most related
  at-most-normal = fit-normal _ _

  pub at-least-normal : at_least x y ≡ made v → Normal v
  unfolding at_least related
  at-least-normal = fit-normal _ _

module _ (x v : Value) where
  pub negation-normal : negation x ≡ made v → Normal v
  unfolding negation
  negation-normal = fit-normal _ _

  pub complement-normal : complement x ≡ made v → Normal v
  unfolding complement
  complement-normal = fit-normal _ _

  pub or-reduction-normal : or_reduction x ≡ made v → Normal v
  unfolding or_reduction
  or-reduction-normal = fit-normal _ _

  pub and-reduction-normal : and_reduction x ≡ made v → Normal v
  unfolding and_reduction
  and-reduction-normal = fit-normal _ _

  pub exclusive-reduction-normal : exclusive_reduction x ≡ made v → Normal v
  unfolding exclusive_reduction
  exclusive-reduction-normal = fit-normal _ _

  pub sum-reduction-normal : sum_reduction x ≡ made v → Normal v
  unfolding sum_reduction
  sum-reduction-normal = fit-normal _ _

  pub extended-normal : (c : ℕ) → extended x c ≡ made v → Normal v
  unfolding extended
  extended-normal c = fit-normal _ _

  pub head-normal : (c : ℕ) → head x c ≡ made v → Normal v
  unfolding head
  head-normal c = fit-normal _ _

  pub tail-normal : (c : ℕ) → tail x c ≡ made v → Normal v
  unfolding tail
  tail-normal c = fit-normal _ _

  pub part-normal : (from count : ℕ) → part x from count ≡ made v → Normal v
  unfolding part
  part-normal from count = fit-normal _ _
