-- The words of every text are right: names in capitals that are no reserved words, constants that fit their lengths. Assumes nothing.
use Rattle.std.specs.Prelude.{Bool, true, false, cond, ◌||◌, ◌&&◌, List, [], ◌∷◌, map, ◌≡◌, refl, ℕ, zero, suc, ◌+◌, ◌-◌, ◌*◌, ◌/◌, ◌^◌, ◌≤◌, ◌<◌, eqb, leb, ltb, drop, get_or, length, take}
use Rattle.std.proofs.Common.{mod-lt, mul-le-mul_right, mul-suc, suc-mul, arith, leb-true, leb-false, le-leb, ltb-true, pow-add, pow_pos, shl_lt, shr_lt}
use Rattle.language.specs.Canonical.{is_capital, name_parts, name_right}
use Rattle.language.specs.Characters.{blank_class, class_of, digit_class, digit_worth, folded, is_blank, is_digit, is_letter, letter_class, member, quote, quote_class, symbol_class, symbols, within}
use Rattle.language.specs.Constants.{bare_constant, bare_length, binary_constant, decimal_constant, digits_after, digits_number, left_justified, right_justified}
use Rattle.language.specs.Image.{ConstantRight, WordsRight}
use Rattle.language.specs.declared.refusals.Refusal.{Refusal}
use Rattle.language.specs.Scan as S
use Rattle.language.specs.Scan.{Found, Item, bare_at, based_item, binary_at, comment_at, constant_at, decimal_at, digit_bits, digits_of, is_decimal_base, is_digit_of, is_name_part, item_at, name_at, name_item, reserved_kind, same, span, spelled_symbols, symbol_among, written}
use Rattle.language.specs.Ceilings.{bare_largest, longest, longest_name}
use Rattle.language.specs.Value.{Value}
use Rattle.language.specs.WordStage.{Scanned, noted, scan, scan_from}
use Rattle.language.specs.Words.{Constant, Position, position}
use Rattle.about_rules.specs.Declared.{both_so}

data RightItem : Item → Type 0 where
  a-gap : RightItem S.gap
  a-name : {n : List ℕ} → name_right n ≡ true → RightItem (S.named n)
  a-constant : {c : Constant} → ConstantRight c → RightItem (S.constant c)
  a-sign : {k : ℕ} → RightItem (S.sign k)
  no_word : {n : Refusal} → RightItem (S.wrong n)

record RightFound (f : Found) : Type 0 where
  item : RightItem f.item

either : {f g : Found} (z : Bool) → RightFound f → RightFound g → RightFound (cond z f g)
either true x y = x
either false x y = y

-- One way of a test, known to have gone so.
when-so : {i j : Item} (z : Bool) → (z ≡ true → RightItem i) → RightItem j → RightItem (cond z i j)
when-so true x y = x refl
when-so false x y = y

found-when : {f g : Found} (z : Bool) → (z ≡ true → RightFound f) → RightFound g → RightFound (cond z f g)
found-when true x y = x refl
found-when false x y = y

-- ---- Names.

tests : (a b : Bool) → (a && b) ≡ true → (a ≡ true) × (b ≡ true)
tests true true e = (refl, refl)
tests true false e = absurd (let z : ◌≡◌ {A = ℕ} 0 1 = cc in omega arith)
tests false b e = absurd (let z : ◌≡◌ {A = ℕ} 0 1 = cc in omega arith)

within-so : (lo b hi : ℕ) → lo ≤ b → b ≤ hi → within lo b hi ≡ true
within-so lo b hi l h = rw (le-leb b hi h, le-leb lo b l) refl

in-range : (lo b hi : ℕ) → within lo b hi ≡ true → (lo ≤ b) × (b ≤ hi)
in-range lo b hi e = let y = tests (leb b hi) (leb lo b) e in (leb-true lo b y.1, leb-true b hi y.0)

letter-capital : (b : ℕ) → is_letter b ≡ true → is_capital (folded b) ≡ true
unfolding folded
letter-capital b e = go (within 97 b 122) refl (within 65 b 90) refl e
  where
    go : (s : Bool) → within 97 b 122 ≡ s → (c : Bool) → within 65 b 90 ≡ c → (c || s) ≡ true → is_capital (cond s (b - 32) b) ≡ true
    go true q c r k = let y = in-range 97 b 122 q in within-so 65 (b - 32) 90 (omega (arith, y.0)) (omega (arith, y.1))
    go false q true r k = r
    go false q false r k = absurd (let z : ◌≡◌ {A = ℕ} 0 1 = cc in omega arith)

digit-folded : (b : ℕ) → is_digit b ≡ true → is_digit (folded b) ≡ true
unfolding folded
digit-folded b e = go (within 97 b 122) refl
  where
    go : (s : Bool) → within 97 b 122 ≡ s → is_digit (cond s (b - 32) b) ≡ true
    go true q = absurd (let y = in-range 97 b 122 q in let z = in-range 48 b 57 e in omega (arith, y.0, z.1))
    go false q = e

part_right : (b : ℕ) → is_name_part b ≡ true → cond (is_capital (folded b)) true (is_digit (folded b)) ≡ true
part_right b e = go (is_letter b) refl (is_digit b) refl e
  where
    either_way : (c : Bool) → is_digit (folded b) ≡ true → cond c true (is_digit (folded b)) ≡ true
    either_way true h = refl
    either_way false h = h

    go : (l : Bool) → is_letter b ≡ l → (d : Bool) → is_digit b ≡ d → (l || d) ≡ true → cond (is_capital (folded b)) true (is_digit (folded b)) ≡ true
    go true q d r k = rw (letter-capital b q) refl
    go false q true r k = either_way (is_capital (folded b)) (digit-folded b r)
    go false q false r k = absurd (let z : ◌≡◌ {A = ℕ} 0 1 = cc in omega arith)

parts-right : (s : List ℕ) → name_parts (map folded (take (span is_name_part s) s)) ≡ true
unfolding name_parts span
parts-right [] = refl
parts-right (b ∷ s) = go (is_name_part b) refl (parts-right s)
  where
    go : (z : Bool) → is_name_part b ≡ z → name_parts (map folded (take (span is_name_part s) s)) ≡ true → name_parts (map folded (take (cond z (suc (span is_name_part s)) 0) (b ∷ s))) ≡ true
    go true q h = both_so (part_right b q) h
    go false q h = refl

-- A name begins with a letter.
name-right : (b : ℕ) (s : List ℕ) → is_letter b ≡ true → RightItem (name_item (map folded (take (span is_name_part (b ∷ s)) (b ∷ s))))
unfolding name_right span
name-right b s e =
    rw (part-so e)
    (when-so (eqb (reserved_kind letters) 0) (λ r. when-so (leb (length letters) longest_name) (λ l. a-name (both_so (letter-capital b e) (both_so (parts-right s) (both_so l r)))) no_word) a-sign)
  where
    letters : List ℕ
    letters = folded b ∷ map folded (take (span is_name_part s) s)

    part-so : is_letter b ≡ true → is_name_part b ≡ true
    part-so q = rw q refl

-- A character of the letters' class is a letter.
class-letter : (b : ℕ) → eqb (class_of b) letter_class ≡ true → is_letter b ≡ true
unfolding class_of
class-letter b e = go (is_letter b) (is_digit b) (is_blank b) (eqb b quote) (member b symbols) e
  where
    go : (l d k q m : Bool) → eqb (cond l letter_class (cond d digit_class (cond k blank_class (cond q quote_class (cond m symbol_class 0))))) letter_class ≡ true → l ≡ true
    go true d k q m h = refl
    go false true k q m h = absurd (let z : ◌≡◌ {A = ℕ} 0 1 = cc in omega arith)
    go false false true q m h = absurd (let z : ◌≡◌ {A = ℕ} 0 1 = cc in omega arith)
    go false false false true m h = absurd (let z : ◌≡◌ {A = ℕ} 0 1 = cc in omega arith)
    go false false false false true h = absurd (let z : ◌≡◌ {A = ℕ} 0 1 = cc in omega arith)
    go false false false false false h = absurd (let z : ◌≡◌ {A = ℕ} 0 1 = cc in omega arith)

-- ---- Constants.

abbrev Below : ℕ → List ℕ → Type 0
Below b [] = Unit {0}
Below b (d ∷ ds) = (d < b) × Below b ds

digits-below : (base : ℕ) (s : List ℕ) → Below base (digits_of base s)
unfolding digits_of span
digits-below base [] = tt
digits-below base (b ∷ s) = go (is_digit_of base b) refl (digits-below base s)
  where
    go : (z : Bool) → is_digit_of base b ≡ z → Below base (map digit_worth (take (span (is_digit_of base) s) s)) → Below base (map digit_worth (take (cond z (suc (span (is_digit_of base) s)) 0) (b ∷ s)))
    go true q h = (ltb-true (digit_worth b) base q, h)
    go false q h = tt

one-digit : (j k n d : ℕ) → n < 2 ^ j → d < 2 ^ k → n * 2 ^ k + d < 2 ^ (j + k)
one-digit j k n d l h =
    let m : suc n * 2 ^ k ≤ 2 ^ j * 2 ^ k = mul-le-mul_right (2 ^ k) l in
    let e : suc n * 2 ^ k ≡ n * 2 ^ k + 2 ^ k = suc-mul n (2 ^ k) in
    rw (pow-add 2 j k) (omega (arith, m, e, h))

digits-fit : (j k n : ℕ) (ds : List ℕ) → n < 2 ^ j → Below (2 ^ k) ds → digits_after (2 ^ k) n ds < 2 ^ (j + k * length ds)
unfolding digits_after
digits-fit j k n [] l h = let z : j + k * 0 ≡ j = omega arith in rw z l
digits-fit j k n (d ∷ ds) l h =
    let e : k * suc (length ds) ≡ k * length ds + k = mul-suc k (length ds) in
    let z : j + k * suc (length ds) ≡ j + k + k * length ds = omega (arith, e) in
    rw z (digits-fit (j + k) k (n * 2 ^ k + d) ds (one-digit j k n d l h.0) h.1)

left-fits : (l b n : ℕ) → n < 2 ^ b → (left_justified l b n).number < 2 ^ l
unfolding left_justified
left-fits l b n h = go (leb b l) refl
  where
    go : (z : Bool) → leb b l ≡ z → cond z (n * 2 ^ (l - b)) (n / 2 ^ (b - l)) < 2 ^ l
    go true q = let k : b ≤ l = leb-true b l q in let e : b + (l - b) ≡ l = omega arith in let r : n * 2 ^ (l - b) < 2 ^ (b + (l - b)) = shl_lt b (l - b) h in rw e at r
    go false q = let k : l < b = leb-false b l q in let e : l + (b - l) ≡ b = omega arith in shr_lt l (b - l) (rw e h)

binary-fits : (k l : ℕ) (left : Bool) (ds : List ℕ) → Below (2 ^ k) ds → (binary_constant k left l ds).number < 2 ^ l
unfolding binary_constant right_justified
binary-fits k l true ds h =
    let z : 0 + k * length ds ≡ k * length ds = omega arith in
    left-fits l (k * length ds) (digits_number (2 ^ k) ds) (rw (← z) (digits-fit 0 k 0 ds (omega arith) h))
binary-fits k l false ds h = mod-lt (digits_number (2 ^ k) ds) (pow_pos l)

binary-length : (k l : ℕ) (left : Bool) (ds : List ℕ) → (binary_constant k left l ds).length ≡ l
unfolding binary_constant right_justified left_justified
binary-length k l true ds = refl
binary-length k l false ds = refl

based-right : (l : ℕ) (ds : List ℕ) (v : Value) → v.length ≡ l → v.number < 2 ^ l → RightItem (based_item l ds (written false v))
based-right l ds v e h =
    when-so (ltb 0 (length ds)) (λ x. when-so (ltb 0 l) (λ y. when-so (leb l longest) (λ z.
    a-constant (record { some_bits = rw e (ltb-true 0 l y); at-most = rw e (leb-true l longest z); fits = rw e h; bare-length = λ q. absurd (let i : ◌≡◌ {A = ℕ} 0 1 = cc in omega arith) })) no_word) no_word) no_word

binary-right : (k l n : ℕ) (s : List ℕ) → RightFound (binary_at k l n s)
unfolding binary_at
binary-right k l n s =
    either (eqb (get_or s 0 0) 46)
    (record { item = based-right l (digits_of (2 ^ k) (drop 1 s)) _ (binary-length k l true (digits_of (2 ^ k) (drop 1 s))) (binary-fits k l true (digits_of (2 ^ k) (drop 1 s)) (digits-below (2 ^ k) (drop 1 s))) })
    (record { item = based-right l (digits_of (2 ^ k) s) _ (binary-length k l false (digits_of (2 ^ k) s)) (binary-fits k l false (digits_of (2 ^ k) s) (digits-below (2 ^ k) s)) })

decimal-right : (l n : ℕ) (s : List ℕ) → RightFound (decimal_at l n s)
unfolding decimal_at decimal_constant right_justified
decimal-right l n s = record { item = based-right l (digits_of 10 s) (decimal_constant l (digits_of 10 s)) refl (mod-lt (digits_number 10 (digits_of 10 s)) (pow_pos l)) }

bare-right : (ds : List ℕ) → RightFound (bare_at ds)
unfolding bare_at bare_constant decimal_constant right_justified bare_length longest
bare-right ds = record {
  item = when-so (leb (digits_number 10 ds) bare_largest) (λ l. a-constant (record { some_bits = omega arith; at-most = omega arith; fits = mod-lt (digits_number 10 ds) (pow_pos 16); bare-length = λ e. refl })) no_word;
}

constant-right : (s : List ℕ) → RightFound (constant_at s)
unfolding constant_at
constant-right s =
    either (ltb 0 (digit_bits (get_or s (length (digits_of 10 s)) 0))) (binary-right _ _ _ _)
    (either (is_decimal_base (get_or s (length (digits_of 10 s)) 0)) (decimal-right (digits_number 10 (digits_of 10 s)) (length (digits_of 10 s)) (drop (suc (length (digits_of 10 s))) s)) (bare-right (digits_of 10 s)))

-- ---- The whole text.

symbol-right : (xs : List S.Spelled) (s : List ℕ) → RightFound (symbol_among xs s)
unfolding symbol_among
symbol-right [] s = record { item = no_word }
symbol-right (x ∷ xs) s = either (same x.spelling (take (length x.spelling) s)) (record { item = a-sign }) (symbol-right xs s)

item-right : (b : ℕ) (s : List ℕ) → RightFound (item_at b s)
unfolding item_at name_at comment_at
item-right b s =
    found-when (eqb (class_of b) letter_class) (λ e. record { item = name-right b s (class-letter b e) })
    (either (eqb (class_of b) digit_class) (constant-right (b ∷ s))
    (either (eqb (class_of b) blank_class) (record { item = a-gap })
    (either (eqb (class_of b) quote_class) (record { item = a-gap })
    (either (eqb (class_of b) symbol_class) (symbol-right spelled_symbols (b ∷ s)) (record { item = no_word })))))

noted-right : (p : Position) (i : Item) (r : Scanned) → RightItem i → WordsRight r.words → WordsRight (noted p i r).words
noted-right p S.gap r a-gap y = y
noted-right p (S.named n) r (a-name x) y = (x, y)
noted-right p (S.constant c) r (a-constant x) y = (x, y)
noted-right p (S.sign k) r a-sign y = (tt, y)
noted-right p (S.wrong n) r no_word y = y

from-right : (k at : ℕ) (s : List ℕ) → WordsRight (scan_from k at s).words
unfolding scan_from
from-right zero at s = tt
from-right (suc k) at [] = tt
from-right (suc k) at (b ∷ s) =
    let f = item_at b s in
    noted-right (position at) f.item (scan_from k (at + f.size) (drop f.size (b ∷ s))) (item-right b s).item (from-right k (at + f.size) (drop f.size (b ∷ s)))

pub words_right : (s : List ℕ) → WordsRight (scan s).words
unfolding scan
words_right s = from-right (length s) 0 s
