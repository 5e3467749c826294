-- The words of a text are proper: no sign has a name's or a constant's kind.
use Rattle.std.specs.Prelude.{Bool, true, false, cond, not, List, [], ◌∷◌, map, ◌≡◌, refl, ℕ, zero, suc, ◌+◌, ◌^◌, eqb, leb, ltb, drop, get_or, length, take}
use Rattle.language.specs.Characters.{blank_class, class_of, digit_class, folded, letter_class, quote_class, symbol_class}
use Rattle.language.specs.Constants.{bare_constant, decimal_constant, digits_number}
use Rattle.language.specs.Kinds.{a_constant, a_name}
use Rattle.language.specs.declared.refusals.Refusal.TheVariants.{BadConstant, BadName}
use Rattle.language.specs.Scan as S
use Rattle.language.specs.Scan.{Found, Item, Reserved, Spelled, bare_at, based_item, binary_at, comment_at, constant_at, decimal_at, digit_bits, digits_of, is_decimal_base, is_name_part, item_at, name_at, name_item, reserved_among, reserved_kind, reserved_words, same, span, spelled_symbols, symbol_among, written}
use Rattle.language.specs.Ceilings.{bare_largest, longest, longest_name}
use Rattle.language.specs.WordStage.{Scanned, noted, scan, scan_from}
use Rattle.language.specs.Words.{Constant, Position, position}
use Rattle.about_grammar.specs.Accepting.{Proper}
use Rattle.about_grammar.specs.FineWays.{both_first, both-second, not-true}
use Rattle.about_grammar.specs.Following.{among}
use Rattle.language.specs.Tests.{both}

abbrev ProperItem : Item → Type 0
ProperItem S.gap = Unit {0}
ProperItem (S.named n) = Unit {0}
ProperItem (S.constant c) = Unit {0}
ProperItem (S.sign k) = among k (a_name ∷ a_constant ∷ []) ≡ false
ProperItem (S.wrong n) = Unit {0}

-- What is found is proper; nominal, so that tests can be gone through.
record ProperFound (f : Found) : Type 0 where
  item : ProperItem f.item

data Fit : Item → Type 0 where
  fit : (i : Item) → ProperItem i → Fit i

fitting : {i : Item} → Fit i → ProperItem i
fitting (fit i p) = p

either : {f g : Found} (z : Bool) → ProperFound f → ProperFound g → ProperFound (cond z f g)
either true x y = x
either false x y = y

either-item : {i j : Item} (z : Bool) → Fit i → Fit j → Fit (cond z i j)
either-item true x y = x
either-item false x y = y

-- ---- Symbols and reserved words, by a test of their tables.

unfoldable spelled_well : List Spelled → Bool
spelled_well [] = true
spelled_well (x ∷ xs) = both (not (among x.kind (a_name ∷ a_constant ∷ []))) (spelled_well xs)

symbol-proper : (xs : List Spelled) → spelled_well xs ≡ true → (s : List ℕ) → ProperFound (symbol_among xs s)
unfolding symbol_among spelled_well
symbol-proper [] e s = record { item = tt }
symbol-proper (x ∷ xs) e s =
    either (same x.spelling (take (length x.spelling) s)) (record { item = not-true (among x.kind (a_name ∷ a_constant ∷ [])) (both_first (not (among x.kind (a_name ∷ a_constant ∷ []))) (spelled_well xs) e) })
    (symbol-proper xs (both-second (not (among x.kind (a_name ∷ a_constant ∷ []))) (spelled_well xs) e) s)

unfoldable reserved_well : List Reserved → Bool
reserved_well [] = true
reserved_well (x ∷ xs) = both (not (among x.kind (a_name ∷ a_constant ∷ []))) (reserved_well xs)

reserved-proper : (xs : List Reserved) → reserved_well xs ≡ true → (s : List ℕ) → among (reserved_among xs s) (a_name ∷ a_constant ∷ []) ≡ false
unfolding reserved_among reserved_well among
reserved-proper [] e s = refl
reserved-proper (x ∷ xs) e s =
    go (same s x.letters) (not-true (among x.kind (a_name ∷ a_constant ∷ [])) (both_first (not (among x.kind (a_name ∷ a_constant ∷ []))) (reserved_well xs) e)) (reserved-proper xs (both-second (not (among x.kind (a_name ∷ a_constant ∷ []))) (reserved_well xs) e) s)
  where
    go : (z : Bool) → among x.kind (a_name ∷ a_constant ∷ []) ≡ false → among (reserved_among xs s) (a_name ∷ a_constant ∷ []) ≡ false → among (cond z x.kind (reserved_among xs s)) (a_name ∷ a_constant ∷ []) ≡ false
    go true f g = f
    go false f g = g

symbols-well : spelled_well spelled_symbols ≡ true
unfolding spelled_well spelled_symbols among
symbols-well = refl

words-well : reserved_well reserved_words ≡ true
unfolding reserved_well reserved_words among
words-well = refl

-- ---- Names and constants.

name-proper : (s : List ℕ) → Fit (name_item s)
name-proper s = either-item (eqb (reserved_kind s) 0) (either-item (leb (length s) longest_name) (fit (S.named s) tt) (fit (S.wrong BadName) tt)) (fit (S.sign (reserved_kind s)) (reserved-proper reserved_words words-well s))

constant-or-wrong : (z : Bool) (c : Constant) → Fit (cond z (S.constant c) (S.wrong BadConstant))
constant-or-wrong z c = either-item z (fit (S.constant c) tt) (fit (S.wrong BadConstant) tt)

based-proper : (l : ℕ) (ds : List ℕ) (c : Constant) → Fit (based_item l ds c)
based-proper l ds c = either-item (ltb 0 (length ds)) (either-item (ltb 0 l) (constant-or-wrong (leb l longest) c) (fit (S.wrong BadConstant) tt)) (fit (S.wrong BadConstant) tt)

binary-proper : (k l n : ℕ) (s : List ℕ) → ProperFound (binary_at k l n s)
unfolding binary_at
binary-proper k l n s = either (eqb (get_or s 0 0) 46) (record { item = fitting (based-proper l (digits_of (2 ^ k) (drop 1 s)) _) }) (record { item = fitting (based-proper l (digits_of (2 ^ k) s) _) })

decimal-proper : (l n : ℕ) (s : List ℕ) → ProperFound (decimal_at l n s)
unfolding decimal_at
decimal-proper l n s = record { item = fitting (based-proper l (digits_of 10 s) (written false (decimal_constant l (digits_of 10 s)))) }

constant-proper : (s : List ℕ) → ProperFound (constant_at s)
unfolding constant_at bare_at
constant-proper s =
    either (ltb 0 (digit_bits (get_or s (length (digits_of 10 s)) 0))) (binary-proper _ _ _ _)
    (either (is_decimal_base (get_or s (length (digits_of 10 s)) 0)) (decimal-proper (digits_number 10 (digits_of 10 s)) (length (digits_of 10 s)) (drop (suc (length (digits_of 10 s))) s)) (record { item = fitting (constant-or-wrong (leb (digits_number 10 (digits_of 10 s)) bare_largest) (written true (bare_constant (digits_of 10 s)))) }))

item-proper : (b : ℕ) (s : List ℕ) → ProperFound (item_at b s)
unfolding item_at name_at comment_at
item-proper b s =
    either (eqb (class_of b) letter_class) (record { item = fitting (name-proper (map folded (take (span is_name_part (b ∷ s)) (b ∷ s)))) })
    (either (eqb (class_of b) digit_class) (constant-proper (b ∷ s))
    (either (eqb (class_of b) blank_class) (record { item = tt })
    (either (eqb (class_of b) quote_class) (record { item = tt })
    (either (eqb (class_of b) symbol_class) (symbol-proper spelled_symbols symbols-well (b ∷ s)) (record { item = tt })))))

-- ---- The whole text.

noted-proper : (p : Position) (i : Item) (r : Scanned) → ProperItem i → Proper r.words → Proper (noted p i r).words
noted-proper p S.gap r x y = y
noted-proper p (S.named n) r x y = (tt, y)
noted-proper p (S.constant c) r x y = (tt, y)
noted-proper p (S.sign k) r x y = (x, y)
noted-proper p (S.wrong n) r x y = y

pub from-proper : (k at : ℕ) (s : List ℕ) → Proper (scan_from k at s).words
unfolding scan_from
from-proper zero at s = tt
from-proper (suc k) at [] = tt
from-proper (suc k) at (b ∷ s) = noted-proper (position at) (item_at b s).item (scan_from k (at + (item_at b s).size) (drop (item_at b s).size (b ∷ s))) (item-proper b s).item (from-proper k (at + (item_at b s).size) (drop (item_at b s).size (b ∷ s)))

pub scan-proper : (s : List ℕ) → Proper (scan s).words
unfolding scan
scan-proper s = from-proper (length s) 0 s
