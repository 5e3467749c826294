-- A name among the items of a text is the folded letters that stand at its place.
use mathlib.Core.Bool.{Bool, true, false, cond}
use mathlib.Core.List.{List, [], ◌∷◌, map}
use mathlib.Core.Path.{◌≡◌, sym, ap, ◌∙◌}
use Prim.Native.Nat.{ℕ, suc, ◌^◌, ◌≤◌}
use native.Mathlib.Omega.{arith}
use lib.Dec.{eqb, leb, ltb}
use lib.ListN.{drop, get_or, length, length-map, length-take, take}
use lib.Seq.{take-length, take-take}
use Rattle.language.specs.Characters.{blank_class, class_of, digit_class, folded, letter_class, quote_class, symbol_class}
use Rattle.language.specs.Constants.{bare_constant, digits_number}
use Rattle.language.specs.declared.refusals.Refusal.TheVariants.{BadConstant}
use Rattle.language.specs.Scan as S
use Rattle.language.specs.Scan.{Found, Item, Spelled, bare_at, based_item, binary_at, comment_at, constant_at, decimal_at, digit_bits, digits_of, is_decimal_base, is_name_part, item_at, name_at, name_item, reserved_kind, same, span, spelled_symbols, symbol_among, written}
use Rattle.language.specs.Ceilings.{bare_largest, longest, longest_name}
use Rattle.language.specs.Tree.{Name}
use Rattle.language.specs.Words.{Constant, Position, position}
use Rattle.parse_array.specs.Names.{letters}
use Rattle.parse_held.specs.NearTexts.{StandsAt}

-- The first letters of a text, in capitals.
abbrev Begins : List ℕ → Name → Type 0
Begins t n = n ≡ map folded (take (length n) t)

abbrev BeginsItem : List ℕ → Item → Type 0
BeginsItem t S.gap = Unit {0}
BeginsItem t (S.named n) = Begins t n
BeginsItem t (S.constant c) = Unit {0}
BeginsItem t (S.sign k) = Unit {0}
BeginsItem t (S.wrong n) = Unit {0}

-- Nominal, so that tests can be gone through.
record Fit (t : List ℕ) (i : Item) : Type 0 where
  item : BeginsItem t i

record FitFound (t : List ℕ) (f : Found) : Type 0 where
  item : BeginsItem t f.item

module _ (t : List ℕ) where
  either : {f g : Found} (z : Bool) → FitFound t f → FitFound t g → FitFound t (cond z f g)
  either true x y = x
  either false x y = y

  either-item : {i j : Item} (z : Bool) → Fit t i → Fit t j → Fit t (cond z i j)
  either-item true x y = x
  either-item false x y = y

  symbol-fits : (xs : List Spelled) (s : List ℕ) → FitFound t (symbol_among xs s)
  unfolding symbol_among
  symbol-fits [] s = record { item = tt }
  symbol-fits (x ∷ xs) s = either (same x.spelling (take (length x.spelling) s)) (record { item = tt }) (symbol-fits xs s)

  name-begins : (k : ℕ) → Begins t (map folded (take k t))
  name-begins k =
      let m = length (take k t) in
      let whole : take k t ≡ take m t = sym (take-length (take k t)) ∙ take-take m k t (omega (arith, length-take k t)) in
      rw (length-map (take k t) folded) (ap (map folded) whole)

  name-fits : (s : Name) → Begins t s → Fit t (name_item s)
  name-fits s h = either-item (eqb (reserved_kind s) 0) (either-item (leb (length s) longest_name) (record { item = h }) (record { item = tt })) (record { item = tt })

  constant-fits : (z : Bool) (c : Constant) → Fit t (cond z (S.constant c) (S.wrong BadConstant))
  constant-fits z c = either-item z (record { item = tt }) (record { item = tt })

  based-fits : (l : ℕ) (ds : List ℕ) (c : Constant) → Fit t (based_item l ds c)
  based-fits l ds c = either-item (ltb 0 (length ds)) (either-item (ltb 0 l) (constant-fits (leb l longest) c) (record { item = tt })) (record { item = tt })

  binary-fits : (k l n : ℕ) (s : List ℕ) → FitFound t (binary_at k l n s)
  unfolding binary_at
  binary-fits k l n s = either (eqb (get_or s 0 0) 46) (record { item = (based-fits l (digits_of (2 ^ k) (drop 1 s)) _).item }) (record { item = (based-fits l (digits_of (2 ^ k) s) _).item })

  number_fits : (s : List ℕ) → FitFound t (constant_at s)
  unfolding constant_at bare_at decimal_at
  number_fits s =
      let ds = digits_of 10 s in
      either (ltb 0 (digit_bits (get_or s (length ds) 0))) (binary-fits _ _ _ _)
      (either (is_decimal_base (get_or s (length ds) 0)) (record { item = (based-fits (digits_number 10 ds) (digits_of 10 (drop (suc (length ds)) s)) _).item })
      (record { item = (constant-fits (leb (digits_number 10 ds) bare_largest) (written true (bare_constant ds))).item }))

item-fits : (b : ℕ) (s : List ℕ) → FitFound (b ∷ s) (item_at b s)
unfolding item_at name_at comment_at
item-fits b s =
    let t = b ∷ s in
    either t (eqb (class_of b) letter_class) (record { item = (name-fits t _ (name-begins t (span is_name_part t))).item })
    (either t (eqb (class_of b) digit_class) (number_fits t t)
    (either t (eqb (class_of b) blank_class) (record { item = tt })
    (either t (eqb (class_of b) quote_class) (record { item = tt })
    (either t (eqb (class_of b) symbol_class) (symbol-fits t spelled_symbols t) (record { item = tt })))))

-- ---- At its place.

abbrev pub Standing : List ℕ → Position → Item → Type 0
Standing text p S.gap = Unit {0}
Standing text p (S.named n) = StandsAt text n p
Standing text p (S.constant c) = Unit {0}
Standing text p (S.sign k) = Unit {0}
Standing text p (S.wrong n) = Unit {0}

pub item-stands : (text : List ℕ) (at b : ℕ) (s : List ℕ) → b ∷ s ≡ drop at text → length (b ∷ s) ≤ 65535 → Standing text (position at) (item_at b s).item
unfolding letters
item-stands text at b s e l = go (item_at b s).item (item-fits b s).item
  where
    go : (i : Item) → BeginsItem (b ∷ s) i → Standing text (position at) i
    go S.gap h = tt
    go (S.named n) h = record {
      letters = h ∙ ap (λ (t : List ℕ). map folded (take (length n) t)) e;
      short = omega (arith, ap length h, length-map (take (length n) (b ∷ s)) folded, length-take (length n) (b ∷ s));
    }
    go (S.constant c) h = tt
    go (S.sign k) h = tt
    go (S.wrong n) h = tt
