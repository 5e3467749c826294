-- Bytes as the scanner tests them, and as the papers list them: the same. Assumes nothing.
use Rattle.std.specs.Prelude.{Bool, ◌||◌, ◌&&◌, eqb, leb, ltb, take}
use Rattle.std.proofs.Math.Bool.{true, false, cond}
use mathlib.Core.List.{List, [], ◌∷◌, ◌++◌}
use Rattle.std.proofs.Math.Path.{◌≡◌, refl}
use native.Mathlib.Omega.{arith}
use Prim.Native.Nat.{ℕ, suc, ◌+◌, ◌-◌, ◌^◌, ◌≤◌, ◌<◌}
use Rattle.std.proofs.Common.{eqb-true, le-leb, leb-true, lt-ltb, ltb-true}
use Rattle.std.proofs.lemmas.Bool.{lt-leb}
use Rattle.std.proofs.Math.ListN.{drop, length}
use Rattle.language.specs.Characters.{digit_worth, folded, is_digit, is_letter, within}
use Rattle.language.specs.Scan.{digit_bits, is_decimal_base, is_digit_of, is_name_part, span}
use Rattle.about_grammar.specs.Stacks.{false-true as no}
use Rattle.about_reading.specs.Spelling as S
use Rattle.about_reading.specs.Spelling.{All, Decimal, DecimalDesignator, Designator, DigitOf, Letter, LetterOrDigit, more, none}

-- ---- Tests of a range.

pub record Range (lo b hi : ℕ) : Type 0 where
  pub low : lo ≤ b
  pub high : b ≤ hi

within-so : (lo b hi : ℕ) → lo ≤ b → b ≤ hi → within lo b hi ≡ true
within-so lo b hi h k = rw (le-leb b hi k, le-leb lo b h)

above : (lo b hi : ℕ) → hi < b → within lo b hi ≡ false
above lo b hi h = rw (lt-leb b hi h)

so-within : (lo b hi : ℕ) → within lo b hi ≡ true → Range lo b hi
so-within lo b hi e = go (leb b hi) refl e
  where
    go : (t : Bool) → leb b hi ≡ t → t && leb lo b ≡ true → Range lo b hi
    go true q k = record { low = leb-true lo b k; high = leb-true b hi q }
    go false q k = no k

or_left : (a b : Bool) → a ≡ true → a || b ≡ true
or_left a b e = rw e

or_right : (a b : Bool) → b ≡ true → a || b ≡ true
or_right true b e = refl
or_right false b e = e

-- ---- Letters and digits.

pub letter-test : (b : ℕ) → Letter b → is_letter b ≡ true
letter-test b (Letter.capital h k) = or_left (within 65 b 90) (within 97 b 122) (within-so 65 b 90 h k)
letter-test b (Letter.small h k) = or_right (within 65 b 90) (within 97 b 122) (within-so 97 b 122 h k)

pub test-letter : (b : ℕ) → is_letter b ≡ true → Letter b
test-letter b e = go (within 65 b 90) refl e
  where
    go : (t : Bool) → within 65 b 90 ≡ t → t || within 97 b 122 ≡ true → Letter b
    go true q k = let r = so-within 65 b 90 q in Letter.capital r.low r.high
    go false q k = let r = so-within 97 b 122 k in Letter.small r.low r.high

worth-numeral : (b : ℕ) → 48 ≤ b → b ≤ 57 → digit_worth b ≡ b - 48
unfolding digit_worth
worth-numeral b h k = rw (within-so 48 b 57 h k)

worth-capital : (b : ℕ) → 65 ≤ b → b ≤ 70 → digit_worth b ≡ b - 55
unfolding digit_worth
worth-capital b h k = rw (above 48 b 57 (omega arith), within-so 65 b 70 h k)

worth-small : (b : ℕ) → 97 ≤ b → b ≤ 102 → digit_worth b ≡ b - 87
unfolding digit_worth
worth-small b h k = rw (above 48 b 57 (omega arith), above 65 b 70 (omega arith), within-so 97 b 102 h k)

pub digit-test : (base b : ℕ) → DigitOf base b → is_digit_of base b ≡ true
digit-test base b (DigitOf.numeral h k l) = rw (worth-numeral b h k) (lt-ltb (b - 48) base l)
digit-test base b (DigitOf.capital h k l) = rw (worth-capital b h k) (lt-ltb (b - 55) base (omega arith))
digit-test base b (DigitOf.small h k l) = rw (worth-small b h k) (lt-ltb (b - 87) base (omega arith))

pub test-digit : (base b : ℕ) → base ≤ 16 → is_digit_of base b ≡ true → DigitOf base b
unfolding digit_worth
test-digit base b m e = go (within 48 b 57) refl (ltb-true _ base e)
  where
    go3 : (t : Bool) → within 97 b 102 ≡ t → cond t (b - 87) 16 < base → DigitOf base b
    go3 true q k = let r = so-within 97 b 102 q in DigitOf.small r.low r.high (omega (arith, r.low))
    go3 false q k = absurd (omega arith)

    go2 : (t : Bool) → within 65 b 70 ≡ t → cond t (b - 55) (cond (within 97 b 102) (b - 87) 16) < base → DigitOf base b
    go2 true q k = let r = so-within 65 b 70 q in DigitOf.capital r.low r.high (omega (arith, r.low))
    go2 false q k = go3 (within 97 b 102) refl k

    go : (t : Bool) → within 48 b 57 ≡ t → cond t (b - 48) (cond (within 65 b 70) (b - 55) (cond (within 97 b 102) (b - 87) 16)) < base → DigitOf base b
    go true q k = let r = so-within 48 b 57 q in DigitOf.numeral r.low r.high k
    go false q k = go2 (within 65 b 70) refl k

-- A decimal digit is a numeral.
pub decimal-range : {b : ℕ} → Decimal b → Range 48 b 57
decimal-range (DigitOf.numeral h k l) = record { low = h; high = k }
decimal-range (DigitOf.capital h k l) = absurd (omega arith)
decimal-range (DigitOf.small h k l) = absurd (omega arith)

pub range-decimal : (b : ℕ) → is_digit b ≡ true → Decimal b
range-decimal b e = let r = so-within 48 b 57 e in DigitOf.numeral r.low r.high (omega (arith, r.low, r.high))

pub part-test : (b : ℕ) → LetterOrDigit b → is_name_part b ≡ true
part-test b (LetterOrDigit.letter h) = or_left (is_letter b) (is_digit b) (letter-test b h)
part-test b (LetterOrDigit.digit h) = let r = decimal-range h in or_right (is_letter b) (is_digit b) (within-so 48 b 57 r.low r.high)

pub test-part : (b : ℕ) → is_name_part b ≡ true → LetterOrDigit b
test-part b e = go (is_letter b) refl e
  where
    go : (t : Bool) → is_letter b ≡ t → t || is_digit b ≡ true → LetterOrDigit b
    go true q k = LetterOrDigit.letter (test-letter b q)
    go false q k = LetterOrDigit.digit (range-decimal b k)

-- ---- Designators.

pub record Bits (c base : ℕ) : Type 0 where
  pub bits : ℕ
  pub same : digit_bits c ≡ bits
  pub some : 0 < bits
  pub power : 2 ^ bits ≡ base
  pub other : is_digit_of 10 c ≡ false

pub designator-bits : {c base : ℕ} → Designator c base → Bits c base
unfolding digit_bits folded digit_worth
designator-bits S.binary = record { bits = 1; same = refl; some = omega arith; power = refl; other = refl }
designator-bits S.binary-small = record { bits = 1; same = refl; some = omega arith; power = refl; other = refl }
designator-bits S.quartal = record { bits = 2; same = refl; some = omega arith; power = refl; other = refl }
designator-bits S.quartal-small = record { bits = 2; same = refl; some = omega arith; power = refl; other = refl }
designator-bits S.octal = record { bits = 3; same = refl; some = omega arith; power = refl; other = refl }
designator-bits S.hexadecimal = record { bits = 4; same = refl; some = omega arith; power = refl; other = refl }
designator-bits S.hexadecimal-small = record { bits = 4; same = refl; some = omega arith; power = refl; other = refl }

pub designator-small : {c base : ℕ} → Designator c base → base ≤ 16
designator-small S.binary = omega arith
designator-small S.binary-small = omega arith
designator-small S.quartal = omega arith
designator-small S.quartal-small = omega arith
designator-small S.octal = omega arith
designator-small S.hexadecimal = omega arith
designator-small S.hexadecimal-small = omega arith

-- What is folded to a capital is that letter, in either case.
folded-is : (P : ℕ → Type 0) (c k : ℕ) → 65 ≤ k → k ≤ 90 → eqb (folded c) k ≡ true → P k → P (k + 32) → P c
unfolding folded
folded-is P c k l m e x y = go (within 97 c 122) refl (eqb-true _ k e)
  where
    go : (t : Bool) → within 97 c 122 ≡ t → cond t (c - 32) c ≡ k → P c
    go true q h = let r = so-within 97 c 122 q in let z : c ≡ k + 32 = omega (arith, r.low) in rw z y
    go false q h = rw h x

pub bits-designator : (c : ℕ) → ltb 0 (digit_bits c) ≡ true → Designator c (2 ^ digit_bits c)
unfolding digit_bits
bits-designator c e = go1 (eqb (folded c) 66) refl e
  where
    go4 : (t : Bool) → eqb (folded c) 72 ≡ t → ltb 0 (cond t 4 0) ≡ true → Designator c (2 ^ cond t 4 0)
    go4 true q k = folded-is (λ x. Designator x 16) c 72 (omega arith) (omega arith) q S.hexadecimal S.hexadecimal-small
    go4 false q k = no k

    go3 : (t : Bool) → eqb c 64 ≡ t → ltb 0 (cond t 3 (cond (eqb (folded c) 72) 4 0)) ≡ true → Designator c (2 ^ cond t 3 (cond (eqb (folded c) 72) 4 0))
    go3 true q k = rw (eqb-true c 64 q) S.octal
    go3 false q k = go4 (eqb (folded c) 72) refl k

    go2 : (t : Bool) → eqb (folded c) 81 ≡ t → ltb 0 (cond t 2 (cond (eqb c 64) 3 (cond (eqb (folded c) 72) 4 0))) ≡ true
        → Designator c (2 ^ cond t 2 (cond (eqb c 64) 3 (cond (eqb (folded c) 72) 4 0)))
    go2 true q k = folded-is (λ x. Designator x 4) c 81 (omega arith) (omega arith) q S.quartal S.quartal-small
    go2 false q k = go3 (eqb c 64) refl k

    go1 : (t : Bool) → eqb (folded c) 66 ≡ t → ltb 0 (cond t 1 (cond (eqb (folded c) 81) 2 (cond (eqb c 64) 3 (cond (eqb (folded c) 72) 4 0)))) ≡ true
        → Designator c (2 ^ cond t 1 (cond (eqb (folded c) 81) 2 (cond (eqb c 64) 3 (cond (eqb (folded c) 72) 4 0))))
    go1 true q k = folded-is (λ x. Designator x 2) c 66 (omega arith) (omega arith) q S.binary S.binary-small
    go1 false q k = go2 (eqb (folded c) 81) refl k

-- D is no designator of another base, and no digit.
pub record Tens (c : ℕ) : Type 0 where
  pub bits : digit_bits c ≡ 0
  pub tens : is_decimal_base c ≡ true
  pub other : is_digit_of 10 c ≡ false

pub decimal-tens : {c : ℕ} → DecimalDesignator c → Tens c
unfolding digit_bits folded digit_worth
decimal-tens S.decimal = record { bits = refl; tens = refl; other = refl }
decimal-tens S.decimal-small = record { bits = refl; tens = refl; other = refl }

pub tens-decimal : (c : ℕ) → is_decimal_base c ≡ true → DecimalDesignator c
tens-decimal c e = folded-is DecimalDesignator c 68 (omega arith) (omega arith) e S.decimal S.decimal-small

-- ---- Runs of bytes that pass a test.

module _ (f : ℕ → Bool) where
  abbrev pub Pass : ℕ → Type 0
  Pass b = f b ≡ true

  pub span-le : (s : List ℕ) → span f s ≤ length s
  unfolding span
  span-le [] = omega arith
  span-le (b ∷ t) = go (f b) (span-le t)
    where
      go : (x : Bool) → span f t ≤ length t → cond x (suc (span f t)) 0 ≤ suc (length t)
      go true h = omega arith
      go false h = omega arith

  -- The bytes counted pass, the next does not, and no longer run from the start does.
  pub span-all : (s : List ℕ) → All Pass (take (span f s) s)
  unfolding span
  span-all [] = none
  span-all (b ∷ t) = go (f b) refl (span-all t)
    where
      go : (x : Bool) → f b ≡ x → All Pass (take (span f t) t) → All Pass (take (cond x (suc (span f t)) 0) (b ∷ t))
      go true q h = more q h
      go false q h = none

  pub span-stop : (s r : List ℕ) (c : ℕ) → drop (span f s) s ≡ c ∷ r → f c ≡ false
  unfolding span
  span-stop [] r c e = absurd (let z : ◌≡◌ {A = ℕ} 0 1 = cc in omega arith)
  span-stop (b ∷ t) r c e = go (f b) refl (span-stop t r c) e
    where
      go : (x : Bool) → f b ≡ x → (drop (span f t) t ≡ c ∷ r → f c ≡ false) → drop (cond x (suc (span f t)) 0) (b ∷ t) ≡ c ∷ r → f c ≡ false
      go true q on k = on k
      go false q on k = let z : b ≡ c = cc in rw (← z) q

  pub span-most : {u : List ℕ} → All Pass u → (v : List ℕ) → length u ≤ span f (u ++ v)
  unfolding span
  span-most none v = omega arith
  span-most (more {b = b} {s = s} h a) v = let i = span-most a v in rw h (omega arith)

  pub span-exact : {u : List ℕ} → All Pass u → (c : ℕ) (v : List ℕ) → f c ≡ false → span f (u ++ c ∷ v) ≡ length u
  unfolding span
  span-exact none c v e = rw e
  span-exact (more {b = b} {s = s} h a) c v e = rw (h, span-exact a c v e)

-- What holds of every byte may be said in other words.
pub all_map : {P Q : ℕ → Type 0} {s : List ℕ} → ((b : ℕ) → P b → Q b) → All P s → All Q s
all_map on none = none
all_map on (more {b = b} h a) = more (on b h) (all_map on a)
