-- What the class of a byte tells.
use mathlib.Core.Bool.{Bool, true, false, cond, ◌||◌}
use mathlib.Core.Path.{◌≡◌, refl, sym, ◌∙◌, ap}
use Prim.Native.Nat.{ℕ, ◌≤◌}
use native.Mathlib.Omega.{arith}
use lib.Dec.{eqb}
use borrow.Author.Tests.{lt-leb, eq-eqb, ne_eqb}
use Rattle.language.specs.Characters.{class_of, digit_class, is_blank, is_digit, is_letter, letter_class, member, quote, symbols}
use Rattle.language.specs.Scan.{is_name_part}

-- Past the table no byte has a class.
pub past : (b : ℕ) → 128 ≤ b → 0 ≡ class_of b
unfolding class_of member symbols
past b h =
    simp (
      lt-leb b 122 (omega arith),
      lt-leb b 90 (omega arith),
      lt-leb b 57 (omega arith),
      ne_eqb b 32 (omega arith),
      ne_eqb b 9 (omega arith),
      ne_eqb b 13 (omega arith),
      ne_eqb b 10 (omega arith),
      ne_eqb b 34 (omega arith),
      ne_eqb b 35 (omega arith),
      ne_eqb b 36 (omega arith),
      ne_eqb b 40 (omega arith),
      ne_eqb b 41 (omega arith),
      ne_eqb b 42 (omega arith),
      ne_eqb b 43 (omega arith),
      ne_eqb b 44 (omega arith),
      ne_eqb b 45 (omega arith),
      ne_eqb b 46 (omega arith),
      ne_eqb b 47 (omega arith),
      ne_eqb b 58 (omega arith),
      ne_eqb b 59 (omega arith),
      ne_eqb b 60 (omega arith),
      ne_eqb b 61 (omega arith),
      ne_eqb b 62 (omega arith),
      ne_eqb b 64 (omega arith),
      ne_eqb b 91 (omega arith),
      ne_eqb b 93 (omega arith),
      ne_eqb b 95 (omega arith),
    )

-- A name is made of letters and digits.
name-part : (b : ℕ) → is_name_part b ≡ cond (eqb (class_of b) letter_class) true (eqb (class_of b) digit_class)
unfolding class_of
name-part b = by-class (is_letter b) (is_digit b) (is_blank b) (eqb b quote) (member b symbols)
  where
    by-class : (l d n q s : Bool)
        → (l || d) ≡ (let c = cond l 3 (cond d 4 (cond n 1 (cond q 2 (cond s 5 0)))) in cond (eqb c 3) true (eqb c 4))
    by-class true d n q s = refl
    by-class false true n q s = refl
    by-class false false true q s = refl
    by-class false false false true s = refl
    by-class false false false false true = refl
    by-class false false false false false = refl

pub letter-part : (b : ℕ) → class_of b ≡ letter_class → true ≡ is_name_part b
letter-part b e = sym (name-part b ∙ ap (λ (t : Bool). cond t true (eqb (class_of b) digit_class)) (eq-eqb (class_of b) letter_class e))
