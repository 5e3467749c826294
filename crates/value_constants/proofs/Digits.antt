-- Laws of digits taken one by one: what is held after each, and the constant of the language at the end.
use mathlib.Core.Bool.{Bool, true, false, cond}
use mathlib.Core.List.{List, [], ◌∷◌}
use mathlib.Core.Path.{◌≡◌, refl, sym, ap, ap₂, ◌∙◌, subst}
use mathlib.Core.Logic.{⊎_elim}
use Prim.Native.Nat.{ℕ, zero, suc, ◌+◌, ◌-◌, ◌*◌, ◌/◌, ◌%◌, ◌^◌, ◌≤◌, ◌<◌, min}
use native.Mathlib.Nat.{eq-zero-or-pos, div-eq_of_lt, min-eq_left, min-eq_right, mod-eq_of_lt, le_of_lt, lt_of_lt_of_le, add-sub_of_le, add-mul, mul_assoc, mul-add-div_right, mul-div-mul_right, sub_self, sub-zero, add-zero, zero-add, add_assoc, add_comm, mul-zero, mul-suc}
use native.Mathlib.Omega.{arith}
use lib.Arith.{digits_lt, lt-one}
use lib.Dec.{leb}
use lib.ListN.{length, get_or}
use lib.Pow.{pow_mono, pow_pos, pow-add, shl_lt, shr_lt, shr-shr, shl-shr, high}
use borrow.Author.Tests.{lt-leb, le-leb}
use Rattle.language.specs.Value.{fit, made, none, value}
use Rattle.language.specs.Ceilings.{bare_largest, longest}
use Rattle.language.specs.Constants.{digits_after, digits_number, left_justified, right_justified, binary_constant, decimal_constant, bare_constant, bare_length}
use Rattle.value_operators.specs.Meaning.{allowed}
use Rattle.value_constants.specs.Digits.{Held, Written, holding, decimal_more, counting, bare, on_right, right_more, on_left, left_more}
use Rattle.value_operators.proofs.Fits.{joined-cut, fit-wrap, fit-allowed, allowed-le}

pub held_of : {a b : ℕ} {p q : Bool} → a ≡ b → p ≡ q → ◌≡◌ {A = Held} (record { low = a; passed = p }) (record { low = b; passed = q })
held_of e f = ap₂ (λ (n : ℕ) (b : Bool). record { low = n; passed = b }) e f

pub written_of : {a b j k : ℕ} → a ≡ b → j ≡ k → ◌≡◌ {A = Written} (record { low = a; bits = j }) (record { low = b; bits = k })
written_of e f = ap₂ (λ (n i : ℕ). record { low = n; bits = i }) e f

pub byte-lt : {d : ℕ} → d < 2 ^ 8 → d < 2 ^ 256
byte-lt h = lt_of_lt_of_le h (pow_mono {i = 8} {j = 256} (omega arith))

-- ---- One digit more.

-- Whether n is M or more, or a number was so before.
abbrev pub over : ℕ → Bool → ℕ → Bool
over M passed n = cond passed true (leb M n)

-- What comes of n is as large as n, so where it is remembered that n passed M, what M leaves of n tells the rest.
pub passes : (M : ℕ) (f : ℕ → ℕ) (passed : Bool) (n : ℕ) → n ≤ f n → cond (over M passed n) true (leb M (f (n % M))) ≡ over M passed (f n)
passes M f true n h = refl
passes M f false n h = ⊎_elim (λ e. there (omega arith)) (λ e. before (omega arith)) (eq-zero-or-pos (M - n))
  where
    there : M ≤ n → cond (leb M n) true (leb M (f (n % M))) ≡ leb M (f n)
    there l = ap (λ (b : Bool). cond b true (leb M (f (n % M)))) (le-leb M n l) ∙ sym (le-leb M (f n) (omega arith))

    before : n < M → cond (leb M n) true (leb M (f (n % M))) ≡ leb M (f n)
    before l = ap (λ (b : Bool). cond b true (leb M (f (n % M)))) (lt-leb M n l) ∙ ap (λ (i : ℕ). leb M (f i)) (mod-eq_of_lt l)

pub decimal-more : (n d : ℕ) → decimal_more (holding n) d ≡ holding (n * 10 + d)
unfolding decimal_more holding
decimal-more n d = held_of (joined-cut n 10 d (2 ^ 256)) (passes (2 ^ 256) (λ (i : ℕ). i * 10 + d) false n (omega arith))

bits-more : (b k L : ℕ) → min (min b L + k) L ≡ min (b + k) L
bits-more b k L =
    ⊎_elim
    (λ e. ap (λ (n : ℕ). min (n + k) L) (min-eq_left {n = b} {m = L} (omega arith)))
    (λ e. ap (λ (n : ℕ). min (n + k) L) (min-eq_right {n = L} {m = b} (omega arith)) ∙ min-eq_right {n = L} {m = L + k} (omega arith) ∙ sym (min-eq_right {n = L} {m = b + k} (omega arith)))
    (eq-zero-or-pos (b - L))

pub right-more : (b k n d : ℕ) → right_more (on_right b n) k d ≡ on_right (b + k) (n * 2 ^ k + d)
unfolding right_more on_right
right-more b k n d = written_of (joined-cut n (2 ^ k) d (2 ^ 256)) (bits-more b k 256)

-- ---- Left-justified: n, written in b bits, at the left of L.

abbrev left_number : ℕ → ℕ → ℕ → ℕ
left_number L b n = (left_justified L b n).number

padded : (L b n : ℕ) → b ≤ L → left_number L b n ≡ n * 2 ^ (L - b)
unfolding left_justified
padded L b n h = ap (λ (t : Bool). cond t (n * 2 ^ (L - b)) (n / 2 ^ (b - L))) (le-leb b L h)

cut : (L b n : ℕ) → L < b → left_number L b n ≡ n / 2 ^ (b - L)
unfolding left_justified
cut L b n h = ap (λ (t : Bool). cond t (n * 2 ^ (L - b)) (n / 2 ^ (b - L))) (lt-leb b L h)

-- No room is left.
no_room : (k d : ℕ) → d < 2 ^ k → left_number 0 k d ≡ 0
no_room zero d h = padded 0 0 d (omega arith) ∙ ap (λ (n : ℕ). n * 2 ^ 0) (lt-one h)
no_room (suc k) d h = cut 0 (suc k) d (omega arith) ∙ ap (λ (i : ℕ). d / 2 ^ i) (sub-zero (suc k)) ∙ div-eq_of_lt h

pub left_lt : (L b n : ℕ) → n < 2 ^ b → left_number L b n < 2 ^ L
left_lt L b n h = ⊎_elim (λ e. short (omega arith)) (λ e. long (omega arith)) (eq-zero-or-pos (b - L))
  where
    short : b ≤ L → left_number L b n < 2 ^ L
    short l = rw (padded L b n l) (subst (λ (k : ℕ). n * 2 ^ (L - b) < 2 ^ k) (add-sub_of_le l) (shl_lt b (L - b) h))

    long : L < b → left_number L b n < 2 ^ L
    long l = rw (cut L b n l) (shr_lt L (b - L) (subst (λ (k : ℕ). n < 2 ^ k) (sym (add-sub_of_le (le_of_lt l))) h))

-- Each digit goes to the left of the room that is left.
left-digit : (L b k n d : ℕ) → d < 2 ^ k → left_number L b n + left_number (L - min b L) k d ≡ left_number L (b + k) (n * 2 ^ k + d)
left-digit L b k n d h =
    ⊎_elim
    (λ e. ⊎_elim (λ f. within (omega arith) (omega arith)) (λ f. across (omega arith) (omega arith)) (eq-zero-or-pos (b + k - L)))
    (λ e. beyond (omega arith))
    (eq-zero-or-pos (b - L))
  where
    room : b ≤ L → left_number (L - min b L) k d ≡ left_number (L - b) k d
    room l = ap (λ (i : ℕ). left_number (L - i) k d) (min-eq_left l)

    within : b ≤ L → b + k ≤ L → left_number L b n + left_number (L - min b L) k d ≡ left_number L (b + k) (n * 2 ^ k + d)
    within l m =
        let s = L - b in
        let e : L - (b + k) ≡ s - k = omega arith in
        let p : 2 ^ s ≡ 2 ^ k * 2 ^ (s - k) = ap (λ (i : ℕ). 2 ^ i) {x = s} {y = k + (s - k)} (omega arith) ∙ pow-add 2 k (s - k) in
        ap₂ ◌+◌ (padded L b n l ∙ ap (λ (i : ℕ). n * i) p ∙ sym (mul_assoc n (2 ^ k) (2 ^ (s - k)))) (room l ∙ padded s k d (omega arith))
        ∙ sym (add-mul (n * 2 ^ k) d (2 ^ (s - k)))
        ∙ sym (padded L (b + k) (n * 2 ^ k + d) m ∙ ap (λ (i : ℕ). (n * 2 ^ k + d) * 2 ^ i) e)

    across : b ≤ L → L < b + k → left_number L b n + left_number (L - min b L) k d ≡ left_number L (b + k) (n * 2 ^ k + d)
    across l m =
        let s = L - b in
        let e : b + k - L ≡ k - s = omega arith in
        let p : 2 ^ k ≡ 2 ^ s * 2 ^ (k - s) = ap (λ (i : ℕ). 2 ^ i) {x = k} {y = s + (k - s)} (omega arith) ∙ pow-add 2 s (k - s) in
        ap₂ ◌+◌ (padded L b n l) (room l ∙ cut s k d (omega arith))
        ∙ sym (mul-add-div_right (pow_pos (k - s)) (n * 2 ^ s) d)
        ∙ sym (cut L (b + k) (n * 2 ^ k + d) m ∙ ap (λ (i : ℕ). (n * 2 ^ k + d) / 2 ^ i) e
        ∙ ap (λ (i : ℕ). (i + d) / 2 ^ (k - s)) (ap (λ (i : ℕ). n * i) p ∙ sym (mul_assoc n (2 ^ s) (2 ^ (k - s)))))

    beyond : L < b → left_number L b n + left_number (L - min b L) k d ≡ left_number L (b + k) (n * 2 ^ k + d)
    beyond l =
        let e : b + k - L ≡ k + (b - L) = omega arith in
        ap₂ ◌+◌ (cut L b n l) (ap (λ (i : ℕ). left_number (L - i) k d) (min-eq_right (le_of_lt l)) ∙ ap (λ (i : ℕ). left_number i k d) (sub_self L) ∙ no_room k d h)
        ∙ add-zero (n / 2 ^ (b - L))
        ∙ sym (cut L (b + k) (n * 2 ^ k + d) (omega arith) ∙ ap (λ (i : ℕ). (n * 2 ^ k + d) / 2 ^ i) e ∙ sym (shr-shr (n * 2 ^ k + d) k (b - L))
        ∙ ap (λ (i : ℕ). i / 2 ^ (b - L)) (high n k h))

pub left-more : (b k n d : ℕ) → n < 2 ^ b → d < 2 ^ k → left_more (on_left b n) k d ≡ on_left (b + k) (n * 2 ^ k + d)
unfolding left_more on_left
left-more b k n d hn hd =
    written_of
    (ap (λ (m : ℕ). m % 2 ^ 256) (left-digit 256 b k n d hd)
    ∙ mod-eq_of_lt (left_lt 256 (b + k) (n * 2 ^ k + d) (subst (λ (m : ℕ). n * 2 ^ k + d < m) (sym (pow-add 2 b k)) (digits_lt hn hd))))
    (bits-more b k 256)

-- The left of L is the left of any shorter l.
shorter : (L l b n : ℕ) → l ≤ L → left_number L b n / 2 ^ (L - l) ≡ left_number l b n
shorter L l b n h =
    ⊎_elim
    (λ e. small (omega arith))
    (λ e. ⊎_elim (λ f. middle (omega arith) (omega arith)) (λ f. large (omega arith)) (eq-zero-or-pos (b - L)))
    (eq-zero-or-pos (b - l))
  where
    small : b ≤ l → left_number L b n / 2 ^ (L - l) ≡ left_number l b n
    small e =
        let p : 2 ^ (L - b) ≡ 2 ^ (l - b) * 2 ^ (L - l) = ap (λ (i : ℕ). 2 ^ i) {x = L - b} {y = (l - b) + (L - l)} (omega arith) ∙ pow-add 2 (l - b) (L - l) in
        ap (λ (i : ℕ). i / 2 ^ (L - l)) (padded L b n (omega arith) ∙ ap (λ (i : ℕ). n * i) p ∙ sym (mul_assoc n (2 ^ (l - b)) (2 ^ (L - l))))
        ∙ shl-shr (n * 2 ^ (l - b)) (L - l) ∙ sym (padded l b n e)

    middle : l < b → b ≤ L → left_number L b n / 2 ^ (L - l) ≡ left_number l b n
    middle e f =
        let p : 2 ^ (L - l) ≡ 2 ^ (b - l) * 2 ^ (L - b) = ap (λ (i : ℕ). 2 ^ i) {x = L - l} {y = (b - l) + (L - b)} (omega arith) ∙ pow-add 2 (b - l) (L - b) in
        ap₂ ◌/◌ (padded L b n f) p ∙ mul-div-mul_right n (2 ^ (b - l)) (pow_pos (L - b)) ∙ sym (cut l b n e)

    large : L < b → left_number L b n / 2 ^ (L - l) ≡ left_number l b n
    large e =
        let p : (b - L) + (L - l) ≡ b - l = omega arith in
        ap (λ (i : ℕ). i / 2 ^ (L - l)) (cut L b n e) ∙ shr-shr n (b - L) (L - l) ∙ ap (λ (i : ℕ). n / 2 ^ i) p ∙ sym (cut l b n (omega arith))

-- ---- The constants.

-- Digits of k bits make a number of as many bits as they have.
pub digits-below : (k j n : ℕ) (ds : List ℕ) → n < 2 ^ j → ((i : ℕ) → i < length ds → get_or ds i 0 < 2 ^ k) → digits_after (2 ^ k) n ds < 2 ^ (j + k * length ds)
unfolding digits_after
digits-below k j n [] h below = subst (λ (m : ℕ). n < 2 ^ m) (sym (ap (λ (m : ℕ). j + m) (mul-zero k) ∙ add-zero j)) h
digits-below k j n (d ∷ ds) h below =
    subst (λ (m : ℕ). digits_after (2 ^ k) (n * 2 ^ k + d) ds < 2 ^ m) (add_assoc j k (k * length ds) ∙ ap (λ (m : ℕ). j + m) (add_comm k (k * length ds) ∙ sym (mul-suc k (length ds))))
    (digits-below k (j + k) (n * 2 ^ k + d) ds (subst (λ (m : ℕ). n * 2 ^ k + d < m) (sym (pow-add 2 j k)) (digits_lt h (below 0 (omega arith))))
    (λ i l. below (suc i) (omega arith)))

number-below : (k : ℕ) (ds : List ℕ) → ((i : ℕ) → i < length ds → get_or ds i 0 < 2 ^ k) → digits_number (2 ^ k) ds < 2 ^ (k * length ds)
number-below k ds below = subst (λ (m : ℕ). digits_number (2 ^ k) ds < 2 ^ m) (zero-add (k * length ds)) (digits-below k 0 0 ds (omega arith) below)

-- What the digits make.
module _ (l : ℕ) (ds : List ℕ) (a : allowed l ≡ true) where
  pub decimal-made : fit l (holding (digits_number 10 ds)).low ≡ made (decimal_constant l ds)
  unfolding holding decimal_constant right_justified
  decimal-made = fit-wrap l (digits_number 10 ds) ∙ fit-allowed l (digits_number 10 ds) a

  pub right-made : (k : ℕ) → fit l (on_right (k * length ds) (digits_number (2 ^ k) ds)).low ≡ made (binary_constant k false l ds)
  unfolding on_right binary_constant right_justified
  right-made k = fit-wrap l (digits_number (2 ^ k) ds) ∙ fit-allowed l (digits_number (2 ^ k) ds) a

  pub left-made : (k : ℕ) → ((i : ℕ) → i < length ds → get_or ds i 0 < 2 ^ k)
      → fit l ((on_left (k * length ds) (digits_number (2 ^ k) ds)).low / 2 ^ (256 - l)) ≡ made (binary_constant k true l ds)
  unfolding on_left binary_constant left_justified
  left-made k below =
      let b = k * length ds in
      let n = digits_number (2 ^ k) ds in
      let h = number-below k ds below in
      ap (fit l) (shorter 256 l b n (allowed-le l a)) ∙ fit-allowed l (left_number l b n) a ∙ ap (λ (m : ℕ). made (value l m)) (mod-eq_of_lt (left_lt l b n h))

pub start_left : on_right 0 0 ≡ on_left 0 0
unfolding on_right on_left left_justified
start_left = refl

-- A length or a bare constant: the number itself, as far as it may go.
pub counted-number : (n : ℕ) → counting (holding n) ≡ min n (bare_largest + 1)
unfolding counting holding bare_largest
counted-number n = up_to (2 ^ 256) (pow_mono {i = 16} {j = 256} (omega arith))
  where
    up_to : (M : ℕ) → 65536 ≤ M → cond (leb M n) 65536 (min (n % M) 65536) ≡ min n 65536
    up_to M h = ⊎_elim (λ e. there (omega arith)) (λ e. before (omega arith)) (eq-zero-or-pos (M - n))
      where
        there : M ≤ n → cond (leb M n) 65536 (min (n % M) 65536) ≡ min n 65536
        there l = ap (λ (b : Bool). cond b 65536 (min (n % M) 65536)) (le-leb M n l) ∙ sym (min-eq_right (omega arith))

        before : n < M → cond (leb M n) 65536 (min (n % M) 65536) ≡ min n 65536
        before l = ap (λ (b : Bool). cond b 65536 (min (n % M) 65536)) (lt-leb M n l) ∙ ap (λ (m : ℕ). min m 65536) (mod-eq_of_lt l)

module _ (ds : List ℕ) where
  pub bare-made : digits_number 10 ds ≤ bare_largest → bare (holding (digits_number 10 ds)) ≡ made (bare_constant ds)
  unfolding bare bare_largest bare_length bare_constant decimal_constant right_justified allowed longest
  bare-made h =
      let n = digits_number 10 ds in
      ap (λ (m : ℕ). cond (leb m 65535) (fit 16 m) none) (counted-number n ∙ min-eq_left (omega arith))
      ∙ ap (λ (b : Bool). cond b (fit 16 n) none) (le-leb n 65535 h) ∙ fit-allowed 16 n refl

  pub bare-refused : bare_largest < digits_number 10 ds → bare (holding (digits_number 10 ds)) ≡ none
  unfolding bare bare_largest bare_length
  bare-refused h = ap (λ (m : ℕ). cond (leb m 65535) (fit 16 m) none) (counted-number (digits_number 10 ds) ∙ min-eq_right h)
