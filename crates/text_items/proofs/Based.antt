-- A constant of the code is that of the language.
use mathlib.Core.Bool.{Bool, true, false, cond}
use mathlib.Core.List.{List, map}
use mathlib.Core.Path.{◌≡◌, ◌∙◌, ap, ap₂, sym, refl}
use mathlib.Core.Logic.{⊎_elim}
use Prim.Native.Nat.{ℕ, suc, ◌+◌, ◌-◌, ◌*◌, ◌/◌, ◌%◌, ◌^◌, ◌<◌, ◌≤◌}
use native.Mathlib.Nat.{eq-zero-or-pos, min-eq_left, min-eq_right, mod-eq_of_lt, one-mul, zero-add}
use native.Mathlib.Numerals.{add-one}
use native.Mathlib.Omega.{arith}
use lib.Dec.{eqb, leb, ltb}
use lib.ListN.{length, get_or, drop, take, length-map, get_or-eq_default}
use lib.Pow.{pow-lt}
use lib.Seq.{drop-drop, get_or-drop}
use borrow.Author.Rules.{part_to_end}
use borrow.Author.Tests.{eq-eqb, ne_eqb, le-leb, lt-leb, lt-ltb}
use Rattle.language.specs.Characters.{digit_worth, folded}
use Rattle.language.specs.Constants.{bare_constant, binary_constant, decimal_constant, digits_number}
use Rattle.language.specs.declared.refusals.Refusal.TheVariants.{BadConstant}
use Rattle.language.specs.Scan as L
use Rattle.language.specs.Scan.{based, based_item, bare_at, binary_at, constant_at, decimal_at, digit_bits, digits_of, found, is_digit_of, span, written, wrong}
use Rattle.language.specs.Value.{Value, fit, made, none}
use Rattle.language.specs.Ceilings.{bare_largest, longest}
use Rattle.language.specs.Words.{Constant}
use Rattle.value_constants.specs.Digits.{Held, Written, bare, counting, decimal_more, holding, on_left, on_right}
use Rattle.value_constants.proofs.Digits.{bare-made, bare-refused, counted-number, decimal-made, left-made, right-made, start_left}
use Rattle.value_operators.proofs.Fits.{fit_refused}
use Rattle.std.specs.Prelude.{Option, None, Some}
use Rattle.value_operators.specs.declared.Value as V
use Rattle.value_operators.specs.Meaning as Meaning
use Rattle.value_operators.specs.Meaning.{allowed}
use Rattle.text_items.specs.declared.ItemKind.TheVariants as K
use Rattle.text_items.specs.Digits.{binary_from, binary_more, each_digit, length_of}
use Rattle.text_items.specs.Meaning.{made_item, meant, plain_item}
use Rattle.text_items.proofs.OneByOne.{decimal-all, digits-below-base, left-all, right-all}

-- ---- An item of a value that was made, or was not.

module _ (b : Bool) (n : ℕ) (s : List ℕ) where
  pub made-means : (m : Option V.Value) (v : Value) → Meaning.meant m ≡ made v → meant s (made_item m b n) ≡ found (L.constant (written b v)) n
  made-means (Some x) v e = cc
  made-means None v e = let z : ◌≡◌ {A = ℕ} 0 1 = cc in absurd (omega arith)

  pub none-means : (m : Option V.Value) → Meaning.meant m ≡ none → meant s (made_item m b n) ≡ found (wrong BadConstant) n
  none-means (Some x) e = let z : ◌≡◌ {A = ℕ} 0 1 = cc in absurd (omega arith)
  none-means None e = refl

-- ---- A based constant, with a length of l.

module _ (l start : ℕ) (ds : List ℕ) (s : List ℕ) where
  pub no_digit : (c : Constant) → length ds ≡ 0 → meant s (plain_item (K.Wrong BadConstant) (start + length ds)) ≡ based l ds c start
  no_digit c e = simp e

  pub based-fit : (m : Option V.Value) (v : Value) (n : ℕ) → 0 < length ds → Meaning.meant m ≡ fit l n → (allowed l ≡ true → fit l n ≡ made v)
      → meant s (made_item m false (start + length ds)) ≡ based l ds (written false v) start
  unfolding allowed
  based-fit m v n h e f = go (allowed l) refl
    where
      both : (a b : Bool) → cond a (cond b (L.constant (written false v)) (wrong BadConstant)) (wrong BadConstant) ≡ cond (cond a b false) (L.constant (written false v)) (wrong BadConstant)
      both true b = refl
      both false b = refl

      item : based_item l ds (written false v) ≡ cond (allowed l) (L.constant (written false v)) (wrong BadConstant)
      item = simp (lt-ltb 0 (length ds) h) (both (ltb 0 l) (leb l longest))

      go : (a : Bool) → allowed l ≡ a → meant s (made_item m false (start + length ds)) ≡ based l ds (written false v) start
      go true a = made-means false (start + length ds) s m v (e ∙ f a) ∙ sym (ap (λ i. found i (start + length ds)) (item ∙ rw a))
      go false a = none-means false (start + length ds) s m (e ∙ fit_refused l n a) ∙ sym (ap (λ i. found i (start + length ds)) (item ∙ rw a))

-- ---- The digits d of a base, which t begins with.

abbrev pub Taken : ℕ → List ℕ → List ℕ → Type 0
Taken base t d = d ≡ take (span (is_digit_of base) t) t

module _ (base : ℕ) (t : List ℕ) {d : List ℕ} (taken : Taken base t d) where
  worth : map digit_worth d ≡ digits_of base t
  unfolding digits_of
  worth = ap (map digit_worth) taken

  pub count : length d ≡ length (digits_of base t)
  count = sym (length-map d digit_worth) ∙ ap length worth

-- The digits at a place of a text.
pub taken-from : (base start : ℕ) (text d : List ℕ) → Taken base (take (length text - start) (drop start text)) d → Taken base (drop start text) d
taken-from base start text d taken = taken ∙ ap (λ (t : List ℕ). take (span (is_digit_of base) t) t) (part_to_end text start)

some : {n k : ℕ} → n ≡ k → (n ≡ 0 → ⊥) → 0 < k
some {n} {k} e h = ⊎_elim (λ z. absurd (h (e ∙ z))) (λ p. p) (eq-zero-or-pos k)

-- The base of digits of k bits.
pub base-of : (k : ℕ) (t d : List ℕ) → k ≤ 4 → Taken ((1 * 2 ^ k) % 2 ^ 8) t d → Taken (2 ^ k) t d
base-of k t d h taken =
    taken
    ∙ ap (λ (base : ℕ). take (span (is_digit_of base) t) t)
    (ap (λ (n : ℕ). n % 2 ^ 8) (one-mul (2 ^ k)) ∙ mod-eq_of_lt (pow-lt {i = k} {j = 8} (omega arith)))

module _ (l start k : ℕ) (t s d : List ℕ) (taken : Taken (2 ^ k) t d) where
  abbrev ds : List ℕ
  ds = digits_of (2 ^ k) t

  pub binary-none : (left : Bool) → length d ≡ 0 → meant s (plain_item (K.Wrong BadConstant) (start + length d)) ≡ binary_from k left l start t
  unfolding binary_from
  binary-none left h =
      ap (λ (n : ℕ). meant s (plain_item (K.Wrong BadConstant) (start + n))) (count (2 ^ k) t taken)
      ∙ no_digit l start ds s (written false (binary_constant k left l ds)) (sym (count (2 ^ k) t taken) ∙ h)

  left-made-here : (m : Option V.Value) (w : Written) → w ≡ each_digit (binary_more k true) (on_right 0 0) (map digit_worth d) → (length d ≡ 0 → ⊥)
      → Meaning.meant m ≡ fit l (w.low / 2 ^ (256 - l)) → meant s (made_item m false (start + length d)) ≡ binary_from k true l start t
  unfolding binary_from
  left-made-here m w e h f =
      ap (λ (n : ℕ). meant s (made_item m false (start + n))) (count (2 ^ k) t taken)
      ∙ based-fit l start ds s m (binary_constant k true l ds) (w.low / 2 ^ (256 - l)) (some (count (2 ^ k) t taken) h) f
      (λ a. ap (λ (v : Written). fit l (v.low / 2 ^ (256 - l))) held ∙ left-made l ds a k (digits-below-base (2 ^ k) t))
    where
      held : w ≡ on_left (k * length ds) (digits_number (2 ^ k) ds)
      held =
          e ∙ ap₂ (each_digit (binary_more k true)) start_left (worth (2 ^ k) t taken) ∙ left-all k 0 0 ds (omega arith) (digits-below-base (2 ^ k) t)
          ∙ ap (λ (n : ℕ). on_left n (digits_number (2 ^ k) ds)) (zero-add (k * length ds))

  right-made-here : (m : Option V.Value) (w : Written) → w ≡ each_digit (binary_more k false) (on_right 0 0) (map digit_worth d) → (length d ≡ 0 → ⊥)
      → Meaning.meant m ≡ fit l w.low → meant s (made_item m false (start + length d)) ≡ binary_from k false l start t
  unfolding binary_from
  right-made-here m w e h f =
      ap (λ (n : ℕ). meant s (made_item m false (start + n))) (count (2 ^ k) t taken)
      ∙ based-fit l start ds s m (binary_constant k false l ds) w.low (some (count (2 ^ k) t taken) h) f
      (λ a. ap (λ (v : Written). fit l v.low) held ∙ right-made l ds a k)
    where
      held : w ≡ on_right (k * length ds) (digits_number (2 ^ k) ds)
      held =
          e ∙ ap (each_digit (binary_more k false) (on_right 0 0)) (worth (2 ^ k) t taken) ∙ right-all k 0 0 ds
          ∙ ap (λ (n : ℕ). on_right n (digits_number (2 ^ k) ds)) (zero-add (k * length ds))

  module _ (left : Bool) (m : Option V.Value) (w : Written) (e : w ≡ each_digit (binary_more k left) (on_right 0 0) (map digit_worth d)) (h : length d ≡ 0 → ⊥) where
    pub left_here : left ≡ true → Meaning.meant m ≡ fit l (w.low / 2 ^ (256 - l)) → meant s (made_item m false (start + length d)) ≡ binary_from k left l start t
    left_here q f =
        left-made-here m w (e ∙ ap (λ (left : Bool). each_digit (binary_more k left) (on_right 0 0) (map digit_worth d)) q) h f
        ∙ sym (ap (λ (left : Bool). binary_from k left l start t) q)

    pub right-here : left ≡ false → Meaning.meant m ≡ fit l w.low → meant s (made_item m false (start + length d)) ≡ binary_from k left l start t
    right-here q f =
        right-made-here m w (e ∙ ap (λ (left : Bool). each_digit (binary_more k left) (on_right 0 0) (map digit_worth d)) q) h f
        ∙ sym (ap (λ (left : Bool). binary_from k left l start t) q)

-- What is held of decimal digits.
pub decimal-held : (t : List ℕ) {d : List ℕ} → Taken 10 t d → (w : Held) → w ≡ each_digit decimal_more (holding 0) (map digit_worth d) → w ≡ holding (digits_number 10 (digits_of 10 t))
decimal-held t taken w e = e ∙ ap (each_digit decimal_more (holding 0)) (worth 10 t taken) ∙ decimal-all 0 (digits_of 10 t)

module _ (l n : ℕ) (t s d : List ℕ) (taken : Taken 10 t d) where
  pub decimal-none : length d ≡ 0 → meant s (plain_item (K.Wrong BadConstant) (n + 1 + length d)) ≡ decimal_at l n t
  unfolding decimal_at
  decimal-none h =
      ap (λ (i : ℕ). meant s (plain_item (K.Wrong BadConstant) (n + 1 + i))) (count 10 t taken)
      ∙ no_digit l (n + 1) (digits_of 10 t) s (written false (decimal_constant l (digits_of 10 t))) (sym (count 10 t taken) ∙ h)

  pub decimal-here : (m : Option V.Value) (w : Held) → w ≡ each_digit decimal_more (holding 0) (map digit_worth d) → (length d ≡ 0 → ⊥)
      → Meaning.meant m ≡ fit l w.low → meant s (made_item m false (n + 1 + length d)) ≡ decimal_at l n t
  unfolding decimal_at
  decimal-here m w e h f =
      ap (λ (i : ℕ). meant s (made_item m false (n + 1 + i))) (count 10 t taken)
      ∙ based-fit l (n + 1) (digits_of 10 t) s m (decimal_constant l (digits_of 10 t)) w.low (some (count 10 t taken) h) f
      (λ a. ap (λ (v : Held). fit l v.low) (decimal-held t taken w e) ∙ decimal-made l (digits_of 10 t) a)

-- ---- The period.

module _ (k l n : ℕ) (s : List ℕ) where
  next : get_or (drop (suc n) s) 0 0 ≡ get_or s (n + 1) 0
  next = get_or-drop (suc n) s 0 0 ∙ ap (λ (i : ℕ). get_or s i 0) {x = suc n + 0} {y = n + 1} (omega arith)

  pub left_at : get_or s (n + 1) 0 ≡ 46 → binary_from k true l (n + 2) (drop (n + 2) s) ≡ binary_at k l n (drop (suc n) s)
  unfolding binary_from binary_at
  left_at e =
      sym
      (simp (eq-eqb _ _ (next ∙ e))
      (ap (λ (t : List ℕ). let ds = digits_of (2 ^ k) t in based l ds (written false (binary_constant k true l ds)) (n + 2))
      (drop-drop 1 (suc n) s ∙ ap (λ (i : ℕ). drop i s) {x = suc n + 1} {y = n + 2} (omega arith))))

  pub right-at : (get_or s (n + 1) 0 ≡ 46 → ⊥) → binary_from k false l (n + 1) (drop (n + 1) s) ≡ binary_at k l n (drop (suc n) s)
  unfolding binary_from binary_at
  right-at e = sym (simp (ne_eqb _ _ (λ q. e (sym next ∙ q)), add-one))

-- ---- A length that no value has is as good as 0.

based-length : (l start : ℕ) (ds : List ℕ) (c : ℕ → Constant) → based (length_of l) ds (c (length_of l)) start ≡ based l ds (c l) start
unfolding length_of longest
based-length l start ds c = go (leb l 256) refl
  where
    never : (x a : Bool) → ◌≡◌ {A = L.Item} (cond x (wrong BadConstant) (wrong BadConstant)) (cond x (cond a (wrong BadConstant) (wrong BadConstant)) (wrong BadConstant))
    never true true = refl
    never true false = refl
    never false a = refl

    go : (t : Bool) → leb l 256 ≡ t → based (cond t l 0) ds (c (cond t l 0)) start ≡ based l ds (c l) start
    go true e = refl
    go false e = ap (λ (i : L.Item). found i (start + length ds)) (simp e (never (ltb 0 (length ds)) (ltb 0 l)))

length-given : (n : ℕ) → length_of (counting (holding n)) ≡ length_of n
unfolding length_of longest bare_largest
length-given n =
    ap length_of (counted-number n)
    ∙ ⊎_elim
    (λ e. ap length_of (min-eq_left {n = n} {m = 65536} (omega arith)))
    (λ e. ap length_of (min-eq_right {n = 65536} {m = n} (omega arith)) ∙ sym (ap (λ (t : Bool). cond t n 0) (lt-leb n 256 (omega arith))))
    (eq-zero-or-pos (n - 65536))

binary-length : (k l n : ℕ) (t : List ℕ) → binary_at k (length_of l) n t ≡ binary_at k l n t
unfolding binary_at
binary-length k l n t =
    let left = digits_of (2 ^ k) (drop 1 t) in
    let right = digits_of (2 ^ k) t in
    ap₂ (cond (eqb (get_or t 0 0) 46)) (based-length l (n + 2) left (λ l. written false (binary_constant k true l left)))
    (based-length l (n + 1) right (λ l. written false (binary_constant k false l right)))

decimal-length : (l n : ℕ) (t : List ℕ) → decimal_at (length_of l) n t ≡ decimal_at l n t
unfolding decimal_at
decimal-length l n t = let ds = digits_of 10 t in based-length l (n + 1) ds (λ l. written false (decimal_constant l ds))

-- ---- The letter of a base.

pub bits-few : (b : ℕ) → digit_bits b ≤ 4
unfolding digit_bits
bits-few b = go (eqb (folded b) 66) (eqb (folded b) 81) (eqb b 64) (eqb (folded b) 72)
  where
    go : (x y z w : Bool) → cond x 1 (cond y 2 (cond z 3 (cond w 4 0))) ≤ 4
    go true y z w = omega arith
    go false true z w = omega arith
    go false false true w = omega arith
    go false false false true = omega arith
    go false false false false = omega arith

-- Past the end of the text there is no letter of a base.
pub inside : (s : List ℕ) (n : ℕ) → (get_or s n 0 ≡ 0 → ⊥) → n < length s
inside s n h = ⊎_elim (λ z. absurd (h (get_or-eq_default s 0 (omega arith)))) (λ p. omega arith) (eq-zero-or-pos (length s - n))

pub next-inside : (s : List ℕ) (n : ℕ) → get_or s (n + 1) 0 ≡ 46 → n + 2 ≤ length s
next-inside s n h = let z : n + 1 < length s = inside s (n + 1) (λ e. let z : ◌≡◌ {A = ℕ} 0 46 = sym e ∙ h in absurd (omega arith)) in omega arith

-- ---- Which constant it is, by the byte b after its first digits d.

module _ (s d : List ℕ) (taken : Taken 10 s d) (w : Held) (ew : w ≡ each_digit decimal_more (holding 0) (map digit_worth d)) (b : ℕ) (eb : b ≡ get_or s (length d) 0) where
  abbrev number : ℕ
  number = digits_number 10 (digits_of 10 s)

  abbrev bare_item : L.Item
  bare_item = cond (leb number bare_largest) (L.constant (written true (bare_constant (digits_of 10 s)))) (wrong BadConstant)

  held : w ≡ holding number
  held = decimal-held s taken w ew

  given : (l : ℕ) → l ≡ length_of (counting w) → l ≡ length_of number
  given l el = el ∙ ap (λ (h : Held). length_of (counting h)) held ∙ length-given number

  module _ (k : ℕ) (ek : k ≡ digit_bits b) where
    pub binary-inside : 0 < k → length d < length s
    unfolding digit_bits folded
    binary-inside h = inside s (length d) (λ e. let z : k ≡ 0 = ek ∙ ap digit_bits (eb ∙ e) in omega arith)

    pub binary-here : (l : ℕ) → 0 < k → l ≡ length_of (counting w) → binary_at k l (length d) (drop (suc (length d)) s) ≡ constant_at s
    unfolding constant_at
    binary-here l h el =
        ap (λ (l : ℕ). binary_at k l (length d) (drop (suc (length d)) s)) (given l el) ∙ binary-length k number (length d) (drop (suc (length d)) s)
        ∙ sym (simp (← count 10 s taken, ← eb, ← ek, lt-ltb 0 k h))

    module _ (none : k ≤ 0) (f : ℕ) (ef : f ≡ folded b) where
      no_bits : digit_bits b ≡ 0
      no_bits = sym ek ∙ zero_of k none
        where
          zero_of : (k : ℕ) → k ≤ 0 → k ≡ 0
          zero_of k h = omega arith

      pub decimal-inside : f ≡ 68 → length d < length s
      unfolding folded
      decimal-inside h = inside s (length d) (λ e. let z : ◌≡◌ {A = ℕ} 0 68 = ap folded (sym (eb ∙ e)) ∙ sym ef ∙ h in absurd (omega arith))

      pub decimal-at-here : (l : ℕ) → f ≡ 68 → l ≡ length_of (counting w) → decimal_at l (length d) (drop (suc (length d)) s) ≡ constant_at s
      unfolding constant_at
      decimal-at-here l h el =
          ap (λ (l : ℕ). decimal_at l (length d) (drop (suc (length d)) s)) (given l el) ∙ decimal-length number (length d) (drop (suc (length d)) s)
          ∙ sym (simp (← count 10 s taken, ← eb, no_bits, ← ef, h))

      pub bare-here : (m : Option V.Value) → (f ≡ 68 → ⊥) → Meaning.meant m ≡ bare w → meant s (made_item m true (length d)) ≡ constant_at s
      unfolding constant_at bare_at
      bare-here m h e =
          ⊎_elim (λ z. small (omega arith)) (λ p. large (omega arith)) (eq-zero-or-pos (number - bare_largest))
          ∙ sym (simp (← count 10 s taken, ← eb, no_bits, ← ef, ne_eqb _ _ h))
        where
          small : number ≤ bare_largest → meant s (made_item m true (length d)) ≡ found bare_item (length d)
          small l = made-means true (length d) s m (bare_constant (digits_of 10 s)) (e ∙ ap bare held ∙ bare-made (digits_of 10 s) l) ∙ sym (simp (le-leb _ _ l))

          large : bare_largest < number → meant s (made_item m true (length d)) ≡ found bare_item (length d)
          large l = none-means true (length d) s m (e ∙ ap bare held ∙ bare-refused (digits_of 10 s) l) ∙ sym (simp (lt-leb _ _ l))
