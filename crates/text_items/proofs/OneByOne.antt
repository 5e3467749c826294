-- The digits of a constant, one after the other: what is held at the end.
use mathlib.Core.Bool.{Bool, true, false, cond}
use mathlib.Core.List.{List, [], ◌∷◌, map}
use mathlib.Core.Path.{◌≡◌, ◌∙◌, ap, sym, refl, subst}
use Prim.Native.Nat.{ℕ, zero, suc, ◌+◌, ◌*◌, ◌^◌, ◌<◌, ◌≤◌}
use native.Mathlib.Nat.{add-zero, add_assoc, add_comm, mul-zero, mul-suc}
use native.Mathlib.Numerals.{add-one}
use native.Mathlib.Omega.{arith}
use lib.Arith.{digits_lt}
use lib.ListN.{length, get_or, drop, take, drop_of_length-le}
use lib.Pow.{pow-add}
use lib.Seq.{drop-cons}
use borrow.Author.Tests.{ltb-true}
use Rattle.language.specs.Characters.{digit_worth}
use Rattle.language.specs.Constants.{digits_after}
use Rattle.language.specs.Scan.{digits_of, is_digit_of, span}
use Rattle.value_constants.specs.Digits.{decimal_more, holding, on_left, on_right}
use Rattle.value_constants.proofs.Digits.{decimal-more, left-more, right-more}
use Rattle.text_items.specs.Digits.{binary_more, each_digit}

-- ---- The loop over the digits.

abbrev pub DigitsLeft : {A : Type 0} → (A → ℕ → A) → A → List ℕ → A → ℕ → Type 0
DigitsLeft f a s x i = each_digit f a (map digit_worth s) ≡ each_digit f x (map digit_worth (drop i s))

module _ {A : Type 0} (f : A → ℕ → A) (a : A) (s : List ℕ) (x : A) (i : ℕ) (left : DigitsLeft f a s x i) where
  pub digit-next : i < length s → (y : A) → y ≡ f x (digit_worth (get_or s i 0)) → DigitsLeft f a s y (i + 1)
  unfolding each_digit
  digit-next h y e = left ∙ rw (drop-cons s i 0 h, add-one i) (ap (λ (z : A). each_digit f z (map digit_worth (drop (suc i) s))) (sym e))

  pub digit-last : length s ≤ i → x ≡ each_digit f a (map digit_worth s)
  unfolding each_digit
  digit-last h = sym (left ∙ rw (drop_of_length-le s h))

-- ---- What is held.

pub decimal-all : (n : ℕ) (ds : List ℕ) → each_digit decimal_more (holding n) ds ≡ holding (digits_after 10 n ds)
unfolding each_digit digits_after
decimal-all n [] = refl
decimal-all n (d ∷ ds) = ap (λ h. each_digit decimal_more h ds) (decimal-more n d) ∙ decimal-all (n * 10 + d) ds

one_more : (b k n : ℕ) → b + k + k * n ≡ b + k * suc n
one_more b k n = add_assoc b k (k * n) ∙ ap (λ (m : ℕ). b + m) (add_comm k (k * n) ∙ sym (mul-suc k n))

no_more : (b k : ℕ) → b ≡ b + k * 0
no_more b k = sym (ap (λ (m : ℕ). b + m) (mul-zero k) ∙ add-zero b)

pub right-all : (k b n : ℕ) (ds : List ℕ) → each_digit (binary_more k false) (on_right b n) ds ≡ on_right (b + k * length ds) (digits_after (2 ^ k) n ds)
unfolding each_digit digits_after
right-all k b n [] = ap (λ (m : ℕ). on_right m n) (no_more b k)
right-all k b n (d ∷ ds) =
    ap (λ w. each_digit (binary_more k false) w ds) (right-more b k n d) ∙ right-all k (b + k) (n * 2 ^ k + d) ds
    ∙ ap (λ (m : ℕ). on_right m (digits_after (2 ^ k) (n * 2 ^ k + d) ds)) (one_more b k (length ds))

abbrev pub Below : ℕ → List ℕ → Type 0
Below base ds = (i : ℕ) → i < length ds → get_or ds i 0 < base

pub left-all : (k b n : ℕ) (ds : List ℕ) → n < 2 ^ b → Below (2 ^ k) ds
    → each_digit (binary_more k true) (on_left b n) ds ≡ on_left (b + k * length ds) (digits_after (2 ^ k) n ds)
unfolding each_digit digits_after
left-all k b n [] h below = ap (λ (m : ℕ). on_left m n) (no_more b k)
left-all k b n (d ∷ ds) h below =
    let hd : d < 2 ^ k = below 0 (omega arith) in
    ap (λ w. each_digit (binary_more k true) w ds) (left-more b k n d h hd)
    ∙ left-all k (b + k) (n * 2 ^ k + d) ds (subst (λ (m : ℕ). n * 2 ^ k + d < m) (sym (pow-add 2 b k)) (digits_lt h hd)) (λ i l. below (suc i) (omega arith))
    ∙ ap (λ (m : ℕ). on_left m (digits_after (2 ^ k) (n * 2 ^ k + d) ds)) (one_more b k (length ds))

-- A digit of a base is below it.
pub digits-below-base : (base : ℕ) (s : List ℕ) → Below base (digits_of base s)
unfolding digits_of span
digits-below-base base [] i h = absurd (omega arith)
digits-below-base base (b ∷ t) i h = go (digits-below-base base t) (is_digit_of base b) refl i h
  where
    go : Below base (digits_of base t) → (d : Bool) → is_digit_of base b ≡ d → Below base (map digit_worth (take (cond d (suc (span (is_digit_of base) t)) 0) (b ∷ t)))
    go below true e zero h = ltb-true _ _ e
    go below true e (suc i) h = below i (omega arith)
    go below false e i h = absurd (omega arith)
