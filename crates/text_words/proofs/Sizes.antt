-- Every item takes a byte or more and ends within its text.
use mathlib.Core.Bool.{Bool, true, false, cond, ◌&&◌, false≢true}
use mathlib.Core.List.{List, [], ◌∷◌}
use mathlib.Core.Path.{◌≡◌, ◌∙◌, ap, sym, refl}
use mathlib.Core.Logic.{⊎_elim}
use Prim.Native.Nat.{ℕ, suc, ◌+◌, ◌-◌, ◌^◌, ◌<◌, ◌≤◌}
use native.Mathlib.Nat.{eq-zero-or-pos, min-eq_right}
use native.Mathlib.Omega.{arith}
use lib.Dec.{eqb, leb, ltb}
use lib.ListN.{length, get_or, drop, take, length-drop, length-map, length-take}
use lib.Seq.{length-take-le}
use borrow.Author.Tests.{eqb-true, leb-true, lt-ltb, ltb-true}
use Rattle.language.specs.Characters.{class_of, digit_class, digit_worth, folded, is_blank, is_digit, is_letter, letter_class, member, quote, symbols}
use Rattle.language.specs.Constants.{digits_number}
use Rattle.language.specs.declared.refusals.Refusal.TheVariants.{BadCharacter}
use Rattle.language.specs.Scan.{Found, Item, Spelled, bare_at, binary_at, bytes, comment_at, constant_at, decimal_at, digit_bits, digits_of, found, gap, in_comment, is_decimal_base, is_digit_of, is_name_part, item_at, name_at, same, span, spelled_symbols, symbol_among, wrong}
use Rattle.text_characters.proofs.ByClass.{letter-part}
use Rattle.text_characters.proofs.Counting.{span-le}
use Rattle.text_characters.proofs.Matching.{other_length}
use Rattle.text_characters.proofs.Table.{first, second}
use Rattle.text_items.proofs.Based.{inside}
use Rattle.text_items.specs.Meaning.{item_start}

-- An item that takes a byte or more, and at most n.
pub record Sized (n : ℕ) (f : Found) : Type 0 where
  pub some : 0 < f.size
  pub within : f.size ≤ n

cond-sized : {n : ℕ} (p : Bool) {a b : Found} → (p ≡ true → Sized n a) → (p ≡ false → Sized n b) → Sized n (cond p a b)
cond-sized true f g = f refl
cond-sized false f g = g refl

-- ---- Names.

span-some : (f : ℕ → Bool) (b : ℕ) (t : List ℕ) → f b ≡ true → 0 < span f (b ∷ t)
unfolding span
span-some f b t e = simp e (omega arith)

name-sized : (b : ℕ) (t : List ℕ) → class_of b ≡ letter_class → Sized (suc (length t)) (name_at (b ∷ t))
unfolding name_at
name-sized b t e = record { some = span-some is_name_part b t (sym (letter-part b e)); within = span-le is_name_part (b ∷ t) }

-- ---- Constants.

digit-class : (b : ℕ) → class_of b ≡ digit_class → is_digit b ≡ true
unfolding class_of
digit-class b e = by-class (is_letter b) (is_digit b) (is_blank b) (eqb b quote) (member b symbols) e
  where
    by-class : (l d n q s : Bool) → ◌≡◌ {A = ℕ} (cond l 3 (cond d 4 (cond n 1 (cond q 2 (cond s 5 0))))) 4 → d ≡ true
    by-class true d n q s h = absurd (omega arith)
    by-class false true n q s h = refl
    by-class false false true q s h = absurd (omega arith)
    by-class false false false true s h = absurd (omega arith)
    by-class false false false false true h = absurd (omega arith)
    by-class false false false false false h = absurd (omega arith)

decimal_digit : (b : ℕ) → class_of b ≡ digit_class → is_digit_of 10 b ≡ true
unfolding digit_worth
decimal_digit b e =
    let d = digit-class b e in
    let h : b ≤ 57 = leb-true b 57 (first (leb b 57) (leb 48 b) d) in
    simp d (lt-ltb (b - 48) 10 (omega arith))

digits_le : (base : ℕ) (s : List ℕ) → length (digits_of base s) ≤ length s
unfolding digits_of
digits_le base s =
    omega
    (arith, length-map (take (span (is_digit_of base) s) s) digit_worth, length-take-le (span (is_digit_of base) s) s (span-le (is_digit_of base) s), span-le (is_digit_of base) s)

digits-some : (b : ℕ) (t : List ℕ) → class_of b ≡ digit_class → 0 < length (digits_of 10 (b ∷ t))
unfolding digits_of
digits-some b t e =
    omega
    (arith, length-map (take (span (is_digit_of 10) (b ∷ t)) (b ∷ t)) digit_worth, length-take-le (span (is_digit_of 10) (b ∷ t)) (b ∷ t) (span-le (is_digit_of 10) (b ∷ t)), span-some (is_digit_of 10) b t (decimal_digit b e))

module _ (l n : ℕ) (s : List ℕ) (h : n < length s) where
  abbrev after : List ℕ
  after = drop (suc n) s

  binary-sized : (k : ℕ) → Sized (length s) (binary_at k l n after)
  unfolding binary_at
  binary-sized k =
      cond-sized (eqb (get_or after 0 0) 46)
      (λ e. record {
        some = omega arith;
        within =
            let z : 0 < length after = inside after 0 (λ q. let z : ◌≡◌ {A = ℕ} 0 46 = sym q ∙ eqb-true _ _ e in omega arith) in
            omega (arith, digits_le (2 ^ k) (drop 1 after), length-drop 1 after, length-drop (suc n) s);
      })
      (λ e. record { some = omega arith; within = omega (arith, digits_le (2 ^ k) after, length-drop (suc n) s) })

  decimal-sized : Sized (length s) (decimal_at l n after)
  unfolding decimal_at
  decimal-sized = record { some = omega arith; within = omega (arith, digits_le 10 after, length-drop (suc n) s) }

-- Where the letter of a base stands, the text has not ended.
binary-inside : (s : List ℕ) (n : ℕ) → 0 < digit_bits (get_or s n 0) → n < length s
unfolding digit_bits folded
binary-inside s n h = inside s n (λ e. let z : digit_bits (get_or s n 0) ≡ 0 = ap digit_bits e in omega arith)

decimal-inside : (s : List ℕ) (n : ℕ) → folded (get_or s n 0) ≡ 68 → n < length s
unfolding folded
decimal-inside s n h = inside s n (λ e. let z : ◌≡◌ {A = ℕ} 0 68 = ap folded (sym e) ∙ h in absurd (omega arith))

constant-sized : (s : List ℕ) → 0 < length (digits_of 10 s) → Sized (length s) (constant_at s)
unfolding constant_at bare_at
constant-sized s h =
    let n = length (digits_of 10 s) in
    let l = digits_number 10 (digits_of 10 s) in
    let b = get_or s n 0 in
    cond-sized (ltb 0 (digit_bits b))
    (λ e. binary-sized l n s (binary-inside s n (ltb-true 0 (digit_bits b) e)) (digit_bits b))
    (λ e. cond-sized (is_decimal_base b)
    (λ d. decimal-sized l n s (decimal-inside s n (eqb-true (folded b) 68 d)))
    (λ d. record { some = h; within = digits_le 10 s }))

-- ---- Comments.

comment-sized : (t : List ℕ) → Sized (suc (length t)) (comment_at t)
unfolding comment_at
comment-sized t = go (eqb (get_or t (span in_comment t) 0) quote) refl
  where
    go : (p : Bool) → eqb (get_or t (span in_comment t) 0) quote ≡ p → Sized (suc (length t)) (found gap (cond p (span in_comment t + 2) (span in_comment t + 1)))
    go true e = record {
      some = omega arith;
      within =
          let z : span in_comment t < length t = inside t (span in_comment t) (λ q. let z : ◌≡◌ {A = ℕ} 0 34 = sym q ∙ eqb-true _ _ e in omega arith) in
          omega arith;
    }
    go false e = record { some = omega arith; within = omega (arith, span-le in_comment t) }

-- ---- Symbols.

unfoldable spelled_out : List Spelled → Bool
spelled_out [] = true
spelled_out (x ∷ xs) = ltb 0 (length x.spelling) && spelled_out xs

begin-le : (w s : List ℕ) → same w (take (length w) s) ≡ true → length w ≤ length s
begin-le w s e =
    ⊎_elim
    (λ z. omega arith)
    (λ p. absurd (false≢true (other_length w (take (length w) s) (λ q. omega (arith, q, length-take (length w) s, min-eq_right {n = length s} {m = length w} (omega arith))) ∙ e)))
    (eq-zero-or-pos (length w - length s))

among-sized : (xs : List Spelled) (s : List ℕ) → spelled_out xs ≡ true → 0 < length s → Sized (length s) (symbol_among xs s)
unfolding symbol_among spelled_out
among-sized [] s e h = record { some = omega arith; within = omega arith }
among-sized (x ∷ xs) s e h =
    let w = x.spelling in
    cond-sized (same w (take (length w) s))
    (λ q. record { some = ltb-true 0 (length w) (first (ltb 0 (length w)) (spelled_out xs) e); within = begin-le w s q })
    (λ q. among-sized xs s (second (ltb 0 (length w)) (spelled_out xs) e) h)

all-spelled : spelled_out spelled_symbols ≡ true
unfolding spelled_out spelled_symbols bytes
all-spelled = refl

-- ---- Items.

pub item-sized : (b : ℕ) (t : List ℕ) → Sized (suc (length t)) (item_at b t)
unfolding item_at
item-sized b t =
    cond-sized (eqb (class_of b) 3) (λ e. name-sized b t (eqb-true _ _ e))
    (λ e. cond-sized (eqb (class_of b) 4) (λ e. constant-sized (b ∷ t) (digits-some b t (eqb-true _ _ e)))
    (λ e. cond-sized (eqb (class_of b) 1) (λ e. one-sized gap)
    (λ e. cond-sized (eqb (class_of b) 2) (λ e. comment-sized t)
    (λ e. cond-sized (eqb (class_of b) 5) (λ e. among-sized spelled_symbols (b ∷ t) all-spelled (omega arith)) (λ e. one-sized (wrong BadCharacter))))))
  where
    one-sized : (i : Item) → Sized (suc (length t)) (found i 1)
    one-sized i = record { some = omega arith; within = omega arith }

pub start-sized : (s : List ℕ) → 0 < length s → Sized (length s) (item_start s)
unfolding item_start
start-sized [] h = absurd (omega arith)
start-sized (b ∷ t) h = item-sized b t
