-- EVERY LIST OF WORDS IS THAT OF SOME BYTES: words as the stage of words lets them through, written one to a line, are read back as they are but for their places, without a fault. Assumes nothing.
use Rattle.std.specs.Prelude.{Bool, true, false, cond, ◌&&◌, List, [], ◌∷◌, ◌++◌, map, ◌≡◌, refl, ℕ, zero, suc, ◌+◌, ◌-◌, ◌*◌, ◌/◌, ◌%◌, ◌^◌, ◌≤◌, ◌<◌, eqb, leb, ltb, drop, get_or, length}
use Rattle.std.proofs.Common.{append_assoc, sym, ap, ap₂, ◌∙◌, div-add-mod', div-lt_iff_lt-mul, lt_of_lt_of_le, mod-eq_of_lt, mod-lt, pow-suc, arith, le-leb, leb-true, lt-ltb, ne_eqb, ltb-false, ltb-true, length-append, pow_mono, drop_at, take_at}
use Rattle.std.proofs.Math.Option.{none}
use Rattle.std.proofs.Math.Nat.{pow-zero}
use Rattle.std.proofs.lemmas.List.{length-map}
use Rattle.language.specs.Canonical.{is_capital, name_parts, name_right}
use Rattle.language.specs.Characters.{carriage_return, class_of, digit_worth, folded, is_digit, line_feed, tab, within}
use Rattle.language.specs.Computing.{words}
use Rattle.language.specs.Constants.{bare_constant, bare_length, binary_constant, decimal_constant, digits_after, digits_number, right_justified}
use Rattle.language.specs.Image.{ConstantRight, WordRight, WordsRight}
use Rattle.language.specs.Kinds.{control_word, hash}
use Rattle.language.specs.Columns.{long_lines, too_wide_after, width_after}
use Rattle.language.specs.Ceilings.{bare_largest, longest, longest_line, longest_name}
use Rattle.language.specs.Scan as S
use Rattle.language.specs.Scan.{Found, Item, bare_at, binary_at, bytes, constant_at, digit_bits, digits_of, found, is_digit_of, is_name_part, item_at, name_at, reserved_kind, span, written}
use Rattle.language.specs.Value.{value}
use Rattle.language.specs.WordStage.{Scanned, least, noted, scan, scan_from, word_fault, word_faults}
use Rattle.language.specs.Words as W
use Rattle.language.specs.Words.{Constant, Position, Word, position}
use Rattle.about_texts.specs.Derivations.{here}
use Rattle.language.specs.Tests.{both}

-- What stands at the start of a text.
abbrev start_of : List ℕ → Found
start_of [] = found S.gap 0
start_of (b ∷ s) = item_at b s

-- Bytes that take a column each.
abbrev Plain : List ℕ → Type 0
Plain [] = Unit {0}
Plain (b ∷ bs) = (32 < b) × Plain bs

-- Bytes that are a word, if the line ends behind them.
record Spells (i : Item) (bs : List ℕ) : Type 0 where
  some_byte : 0 < length bs
  read-so : (rest : List ℕ) → start_of (bs ++ line_feed ∷ rest) ≡ found i (length bs)
  plain : Plain bs
  short : length bs ≤ longest_line

-- ---- Signs: the symbols and the reserved words in the order of their kinds.

unfoldable pub spellings : List (List ℕ)
unfolding bytes
spellings =
    bytes "#" ∷ bytes "$" ∷ bytes "(" ∷ bytes ")" ∷ bytes "*" ∷ bytes "+" ∷ bytes "," ∷ bytes "-" ∷ bytes "." ∷ bytes "/" ∷ bytes ":" ∷ bytes ";" ∷ bytes "<" ∷ bytes "=" ∷ bytes ">" ∷ bytes "@" ∷ bytes "[" ∷ bytes "]"
    ∷ bytes "[+]" ∷ bytes "(+)" ∷ bytes "(-)" ∷ bytes "(=)" ∷ bytes ">=" ∷ bytes "<=" ∷ bytes "->" ∷ bytes "=>" ∷ bytes "<-"
    ∷ bytes "CASE" ∷ bytes "DO" ∷ bytes "ENDCASE" ∷ bytes "IF" ∷ bytes "THEN" ∷ bytes "ELSE" ∷ bytes "ENDIF" ∷ bytes "END" ∷ bytes "CON" ∷ bytes "RED" ∷ bytes "EXT" ∷ bytes "HEAD" ∷ bytes "TAIL" ∷ bytes "TIME"
    ∷ bytes "INPUT" ∷ bytes "OUTPUT" ∷ bytes "LEVEL" ∷ bytes "RETURN" ∷ bytes "REGISTER" ∷ bytes "MEMORY" ∷ bytes "TERMINAL" ∷ bytes "OPERATION" ∷ bytes "CONTROL" ∷ []

abbrev AllSpell : ℕ → List (List ℕ) → Type 0
AllSpell k [] = Unit {0}
AllSpell k (bs ∷ more) = Spells (S.sign k) bs × AllSpell (suc k) more

all-spell : AllSpell hash spellings
unfolding words spellings longest_line
all-spell = (
  record { some_byte = omega arith; read-so = λ rest. refl; plain = (omega arith, tt); short = omega arith },
  (
    record { some_byte = omega arith; read-so = λ rest. refl; plain = (omega arith, tt); short = omega arith },
    (
      record { some_byte = omega arith; read-so = λ rest. refl; plain = (omega arith, tt); short = omega arith },
      (
        record { some_byte = omega arith; read-so = λ rest. refl; plain = (omega arith, tt); short = omega arith },
        (
          record { some_byte = omega arith; read-so = λ rest. refl; plain = (omega arith, tt); short = omega arith },
          (
            record { some_byte = omega arith; read-so = λ rest. refl; plain = (omega arith, tt); short = omega arith },
            (
              record { some_byte = omega arith; read-so = λ rest. refl; plain = (omega arith, tt); short = omega arith },
              (
                record { some_byte = omega arith; read-so = λ rest. refl; plain = (omega arith, tt); short = omega arith },
                (
                  record { some_byte = omega arith; read-so = λ rest. refl; plain = (omega arith, tt); short = omega arith },
                  (
                    record { some_byte = omega arith; read-so = λ rest. refl; plain = (omega arith, tt); short = omega arith },
                    (
                      record { some_byte = omega arith; read-so = λ rest. refl; plain = (omega arith, tt); short = omega arith },
                      (
                        record { some_byte = omega arith; read-so = λ rest. refl; plain = (omega arith, tt); short = omega arith },
                        (
                          record { some_byte = omega arith; read-so = λ rest. refl; plain = (omega arith, tt); short = omega arith },
                          (
                            record { some_byte = omega arith; read-so = λ rest. refl; plain = (omega arith, tt); short = omega arith },
                            (
                              record { some_byte = omega arith; read-so = λ rest. refl; plain = (omega arith, tt); short = omega arith },
                              (
                                record { some_byte = omega arith; read-so = λ rest. refl; plain = (omega arith, tt); short = omega arith },
                                (
                                  record { some_byte = omega arith; read-so = λ rest. refl; plain = (omega arith, tt); short = omega arith },
                                  (
                                    record { some_byte = omega arith; read-so = λ rest. refl; plain = (omega arith, tt); short = omega arith },
                                    (
                                      record { some_byte = omega arith; read-so = λ rest. refl; plain = (omega arith, (omega arith, (omega arith, tt))); short = omega arith },
                                      (
                                        record { some_byte = omega arith; read-so = λ rest. refl; plain = (omega arith, (omega arith, (omega arith, tt))); short = omega arith },
                                        (
                                          record { some_byte = omega arith; read-so = λ rest. refl; plain = (omega arith, (omega arith, (omega arith, tt))); short = omega arith },
                                          (
                                            record { some_byte = omega arith; read-so = λ rest. refl; plain = (omega arith, (omega arith, (omega arith, tt))); short = omega arith },
                                            (
                                              record { some_byte = omega arith; read-so = λ rest. refl; plain = (omega arith, (omega arith, tt)); short = omega arith },
                                              (
                                                record { some_byte = omega arith; read-so = λ rest. refl; plain = (omega arith, (omega arith, tt)); short = omega arith },
                                                (
                                                  record { some_byte = omega arith; read-so = λ rest. refl; plain = (omega arith, (omega arith, tt)); short = omega arith },
                                                  (
                                                    record { some_byte = omega arith; read-so = λ rest. refl; plain = (omega arith, (omega arith, tt)); short = omega arith },
                                                    (
                                                      record { some_byte = omega arith; read-so = λ rest. refl; plain = (omega arith, (omega arith, tt)); short = omega arith },
                                                      (
                                                        record { some_byte = omega arith; read-so = λ rest. refl; plain = (omega arith, (omega arith, (omega arith, (omega arith, tt)))); short = omega arith },
                                                        (
                                                          record { some_byte = omega arith; read-so = λ rest. refl; plain = (omega arith, (omega arith, tt)); short = omega arith },
                                                          (
                                                            record { some_byte = omega arith; read-so = λ rest. refl; plain = (omega arith, (omega arith, (omega arith, (omega arith, (omega arith, (omega arith, (omega arith, tt))))))); short = omega arith },
                                                            (
                                                              record { some_byte = omega arith; read-so = λ rest. refl; plain = (omega arith, (omega arith, tt)); short = omega arith },
                                                              (
                                                                record { some_byte = omega arith; read-so = λ rest. refl; plain = (omega arith, (omega arith, (omega arith, (omega arith, tt)))); short = omega arith },
                                                                (
                                                                  record { some_byte = omega arith; read-so = λ rest. refl; plain = (omega arith, (omega arith, (omega arith, (omega arith, tt)))); short = omega arith },
                                                                  (
                                                                    record { some_byte = omega arith; read-so = λ rest. refl; plain = (omega arith, (omega arith, (omega arith, (omega arith, (omega arith, tt))))); short = omega arith },
                                                                    (
                                                                      record { some_byte = omega arith; read-so = λ rest. refl; plain = (omega arith, (omega arith, (omega arith, tt))); short = omega arith },
                                                                      (
                                                                        record { some_byte = omega arith; read-so = λ rest. refl; plain = (omega arith, (omega arith, (omega arith, tt))); short = omega arith },
                                                                        (
                                                                          record { some_byte = omega arith; read-so = λ rest. refl; plain = (omega arith, (omega arith, (omega arith, tt))); short = omega arith },
                                                                          (
                                                                            record { some_byte = omega arith; read-so = λ rest. refl; plain = (omega arith, (omega arith, (omega arith, tt))); short = omega arith },
                                                                            (
                                                                              record { some_byte = omega arith; read-so = λ rest. refl; plain = (omega arith, (omega arith, (omega arith, (omega arith, tt)))); short = omega arith },
                                                                              (
                                                                                record { some_byte = omega arith; read-so = λ rest. refl; plain = (omega arith, (omega arith, (omega arith, (omega arith, tt)))); short = omega arith },
                                                                                (
                                                                                  record { some_byte = omega arith; read-so = λ rest. refl; plain = (omega arith, (omega arith, (omega arith, (omega arith, tt)))); short = omega arith },
                                                                                  (
                                                                                    record { some_byte = omega arith; read-so = λ rest. refl; plain = (omega arith, (omega arith, (omega arith, (omega arith, (omega arith, tt))))); short = omega arith },
                                                                                    (
                                                                                      record { some_byte = omega arith; read-so = λ rest. refl; plain = (omega arith, (omega arith, (omega arith, (omega arith, (omega arith, (omega arith, tt)))))); short = omega arith },
                                                                                      (
                                                                                        record { some_byte = omega arith; read-so = λ rest. refl; plain = (omega arith, (omega arith, (omega arith, (omega arith, (omega arith, tt))))); short = omega arith },
                                                                                        (
                                                                                          record { some_byte = omega arith; read-so = λ rest. refl; plain = (omega arith, (omega arith, (omega arith, (omega arith, (omega arith, (omega arith, tt)))))); short = omega arith },
                                                                                          (
                                                                                            record { some_byte = omega arith; read-so = λ rest. refl; plain = (omega arith, (omega arith, (omega arith, (omega arith, (omega arith, (omega arith, (omega arith, (omega arith, tt)))))))); short = omega arith },
                                                                                            (
                                                                                              record { some_byte = omega arith; read-so = λ rest. refl; plain = (omega arith, (omega arith, (omega arith, (omega arith, (omega arith, (omega arith, tt)))))); short = omega arith },
                                                                                              (
                                                                                                record { some_byte = omega arith; read-so = λ rest. refl; plain = (omega arith, (omega arith, (omega arith, (omega arith, (omega arith, (omega arith, (omega arith, (omega arith, tt)))))))); short = omega arith },
                                                                                                (
                                                                                                  record { some_byte = omega arith; read-so = λ rest. refl; plain = (omega arith, (omega arith, (omega arith, (omega arith, (omega arith, (omega arith, (omega arith, (omega arith, (omega arith, tt))))))))); short = omega arith },
                                                                                                  (
                                                                                                    record { some_byte = omega arith; read-so = λ rest. refl; plain = (omega arith, (omega arith, (omega arith, (omega arith, (omega arith, (omega arith, (omega arith, tt))))))); short = omega arith },
                                                                                                    tt,
                                                                                                  ),
                                                                                                ),
                                                                                              ),
                                                                                            ),
                                                                                          ),
                                                                                        ),
                                                                                      ),
                                                                                    ),
                                                                                  ),
                                                                                ),
                                                                              ),
                                                                            ),
                                                                          ),
                                                                        ),
                                                                      ),
                                                                    ),
                                                                  ),
                                                                ),
                                                              ),
                                                            ),
                                                          ),
                                                        ),
                                                      ),
                                                    ),
                                                  ),
                                                ),
                                              ),
                                            ),
                                          ),
                                        ),
                                      ),
                                    ),
                                  ),
                                ),
                              ),
                            ),
                          ),
                        ),
                      ),
                    ),
                  ),
                ),
              ),
            ),
          ),
        ),
      ),
    ),
  ),
)

-- The kinds of symbols and reserved words.
abbrev pub SignRight : ℕ → Type 0
SignRight k = within hash k control_word ≡ true

all_there : length spellings ≡ suc (control_word - hash)
unfolding spellings
all_there = refl

spell-at : (k : ℕ) (xs : List (List ℕ)) → AllSpell k xs → (n : ℕ) → n < length xs → Spells (S.sign (k + n)) (get_or xs n [])
spell-at k [] h n l = absurd (omega arith)
spell-at k (x ∷ xs) h zero l = let e : k + 0 ≡ k = omega arith in rw e h.0
spell-at k (x ∷ xs) h (suc n) l = let e : k + suc n ≡ suc k + n = omega arith in rw e (spell-at (suc k) xs h.1 n (omega arith))

in-range : (lo b hi : ℕ) → within lo b hi ≡ true → (lo ≤ b) × (b ≤ hi)
in-range lo b hi e = go (leb b hi) (leb lo b) refl refl e
  where
    go : (x y : Bool) → leb b hi ≡ x → leb lo b ≡ y → (x && y) ≡ true → (lo ≤ b) × (b ≤ hi)
    go true true p q k = (leb-true lo b q, leb-true b hi p)
    go true false p q k = absurd (let z : ◌≡◌ {A = ℕ} 0 1 = cc in omega arith)
    go false y p q k = absurd (let z : ◌≡◌ {A = ℕ} 0 1 = cc in omega arith)

sign-spells : (k : ℕ) → SignRight k → Spells (S.sign k) (get_or spellings (k - hash) [])
sign-spells k h =
    let r = in-range hash k control_word h in
    let e : hash + (k - hash) ≡ k = omega (arith, r.0) in
    rw e at (spell-at hash spellings all-spell (k - hash) (omega (arith, r.0, r.1, all_there)))

-- ---- Names: they stand as they are.

both-parts : (a b : Bool) → both a b ≡ true → (a ≡ true) × (b ≡ true)
both-parts true b e = (refl, e)
both-parts false b e = absurd (let z : ◌≡◌ {A = ℕ} 0 1 = cc in omega arith)

not-above : (lo b hi : ℕ) → b < lo → within lo b hi ≡ false
not-above lo b hi l = go (leb b hi) (leb lo b) refl
  where
    go : (x y : Bool) → leb lo b ≡ y → (x && y) ≡ false
    go true true q = absurd (omega (arith, leb-true lo b q))
    go true false q = refl
    go false y q = refl

within-so : (lo b hi : ℕ) → lo ≤ b → b ≤ hi → within lo b hi ≡ true
within-so lo b hi l h = rw (le-leb b hi h, le-leb lo b l) refl

not-below : (lo b hi : ℕ) → hi < b → within lo b hi ≡ false
not-below lo b hi l = go (leb b hi) refl
  where
    go : (x : Bool) → leb b hi ≡ x → (x && leb lo b) ≡ false
    go true q = absurd (omega (arith, leb-true b hi q))
    go false q = refl

-- A letter or digit of a name.
record Part (b : ℕ) : Type 0 where
  is-part : is_name_part b ≡ true
  as-it-is : folded b ≡ b
  takes-column : 32 < b

capital-part : (b : ℕ) → is_capital b ≡ true → Part b
unfolding folded
capital-part b e =
    let r = in-range 65 b 90 e in
    record { is-part = rw e refl; as-it-is = rw (not-above 97 b 122 (omega (arith, r.1))) refl; takes-column = omega (arith, r.0) }

digit-part : (b : ℕ) → is_digit b ≡ true → Part b
unfolding folded
digit-part b e =
    let r = in-range 48 b 57 e in
    record { is-part = rw (not-above 65 b 90 (omega (arith, r.1)), not-above 97 b 122 (omega (arith, r.1)), e) refl; as-it-is = rw (not-above 97 b 122 (omega (arith, r.1))) refl; takes-column = omega (arith, r.0) }

part_of : (b : ℕ) → cond (is_capital b) true (is_digit b) ≡ true → Part b
part_of b e = go (is_capital b) refl e
  where
    go : (z : Bool) → is_capital b ≡ z → cond z true (is_digit b) ≡ true → Part b
    go true q k = capital-part b q
    go false q k = digit-part b k

abbrev Parts : List ℕ → Type 0
Parts [] = Unit {0}
Parts (b ∷ n) = Part b × Parts n

parts-of : (n : List ℕ) → name_parts n ≡ true → Parts n
unfolding name_parts
parts-of [] e = tt
parts-of (b ∷ n) e = let p = both-parts _ (name_parts n) e in (part_of b p.0, parts-of n p.1)

parts-plain : (n : List ℕ) → Parts n → Plain n
parts-plain [] h = tt
parts-plain (b ∷ n) h = (h.0.takes-column, parts-plain n h.1)

parts-folded : (n : List ℕ) → Parts n → map folded n ≡ n
parts-folded [] h = refl
parts-folded (b ∷ n) h = ap₂ (λ (x : ℕ) (xs : List ℕ). x ∷ xs) h.0.as-it-is (parts-folded n h.1)

parts-span : (n rest : List ℕ) → Parts n → span is_name_part (n ++ line_feed ∷ rest) ≡ length n
unfolding span
parts-span [] rest h = refl
parts-span (b ∷ n) rest h = rw h.0.is-part (ap suc (parts-span n rest h.1))

name-reads : (b : ℕ) (n rest : List ℕ) → is_capital b ≡ true → Parts (b ∷ n) → leb (length (b ∷ n)) longest_name ≡ true → eqb (reserved_kind (b ∷ n)) 0 ≡ true
    → item_at b (n ++ line_feed ∷ rest) ≡ found (S.named (b ∷ n)) (length (b ∷ n))
unfolding item_at name_at class_of
name-reads b n rest c h l r =
    rw (c, parts-span (b ∷ n) rest h, take_at n (line_feed ∷ rest) (length n) refl, h.0.as-it-is, parts-folded n h.1, r, l) refl

name-spells : (n : List ℕ) → name_right n ≡ true → Spells (S.named n) n
unfolding name_right longest_name longest_line
name-spells [] e = absurd (let z : ◌≡◌ {A = ℕ} 0 1 = cc in omega arith)
name-spells (b ∷ n) e =
    let x = both-parts (is_capital b) _ e in
    let y = both-parts (name_parts n) _ x.1 in
    let z = both-parts (leb (length (b ∷ n)) longest_name) _ y.1 in
    let h : Parts (b ∷ n) = (capital-part b x.0, parts-of n y.0) in
    record {
      some_byte = omega arith;
      read-so = λ rest. name-reads b n rest x.0 h z.0 z.1;
      plain = parts-plain (b ∷ n) h;
      short = leb-true (length (b ∷ n)) longest_name z.0;
    }

-- ---- Digits.

-- k digits of a number in a base.
unfoldable pub digits_in : ℕ → ℕ → ℕ → List ℕ
digits_in base zero n = []
digits_in base (suc k) n = digits_in base k (n / base) ++ n % base ∷ []

abbrev digit_byte : ℕ → ℕ
digit_byte d = cond (ltb d 10) (48 + d) (55 + d)

abbrev Below : ℕ → List ℕ → Type 0
Below b [] = Unit {0}
Below b (d ∷ ds) = (d < b) × Below b ds

below-append : (b : ℕ) (xs ys : List ℕ) → Below b xs → Below b ys → Below b (xs ++ ys)
below-append b [] ys h k = k
below-append b (x ∷ xs) ys h k = (h.0, below-append b xs ys h.1 k)

digits-below : (base k n : ℕ) → 0 < base → Below base (digits_in base k n)
unfolding digits_in
digits-below base zero n h = tt
digits-below base (suc k) n h = below-append base (digits_in base k (n / base)) (n % base ∷ []) (digits-below base k (n / base) h) (mod-lt n h, tt)

digits_long : (base k n : ℕ) → length (digits_in base k n) ≡ k
unfolding digits_in
digits_long base zero n = refl
digits_long base (suc k) n = omega (arith, length-append (digits_in base k (n / base)) (n % base ∷ []), digits_long base k (n / base))

after-append : (base n : ℕ) (xs ys : List ℕ) → digits_after base n (xs ++ ys) ≡ digits_after base (digits_after base n xs) ys
unfolding digits_after
after-append base n [] ys = refl
after-append base n (x ∷ xs) ys = after-append base (n * base + x) xs ys

-- They say the number, where it has no more of them.
digits-say : (base k n : ℕ) → 0 < base → n < base ^ k → digits_number base (digits_in base k n) ≡ n
unfolding digits_in digits_after
digits-say base zero n h l = omega (arith, rw (pow-zero base) at l)
digits-say base (suc k) n h l =
    let m : n / base < base ^ k = (div-lt_iff_lt-mul h).1 (rw (pow-suc base k) at l) in
    after-append base 0 (digits_in base k (n / base)) (n % base ∷ []) ∙ rw (digits-say base k (n / base) h m) (div-add-mod' n base)

digit-worth : (d : ℕ) → d < 16 → digit_worth (digit_byte d) ≡ d
unfolding digit_worth
digit-worth d h = go (ltb d 10) refl
  where
    go : (z : Bool) → ltb d 10 ≡ z → digit_worth (cond z (48 + d) (55 + d)) ≡ d
    go true q = rw (within-so 48 (48 + d) 57 (omega arith) (omega (arith, ltb-true d 10 q))) (omega arith)
    go false q = rw (not-below 48 (55 + d) 57 (omega (arith, ltb-false d 10 q)), within-so 65 (55 + d) 70 (omega (arith, ltb-false d 10 q)) (omega arith)) (omega arith)

digit-high : (d : ℕ) → 48 ≤ digit_byte d
digit-high d = go (ltb d 10)
  where
    go : (z : Bool) → 48 ≤ cond z (48 + d) (55 + d)
    go true = omega arith
    go false = omega arith

digits-plain : (ds : List ℕ) → Plain (map digit_byte ds)
digits-plain [] = tt
digits-plain (d ∷ ds) = (omega (arith, digit-high d), digits-plain ds)

plain-append : (xs ys : List ℕ) → Plain xs → Plain ys → Plain (xs ++ ys)
plain-append [] ys h k = k
plain-append (x ∷ xs) ys h k = (h.0, plain-append xs ys h.1 k)

-- What is read where digits end.
digits-read : (base : ℕ) (ds : List ℕ) (c : ℕ) (rest : List ℕ) → base ≤ 16 → Below base ds → is_digit_of base c ≡ false → digits_of base (map digit_byte ds ++ c ∷ rest) ≡ ds
unfolding digits_of span
digits-read base [] c rest l h e = rw e refl
digits-read base (d ∷ ds) c rest l h e =
    let w = digit-worth d (omega (arith, h.0, l)) in
    rw (w, lt-ltb d base h.0, w) (ap (λ (xs : List ℕ). d ∷ xs) (digits-read base ds c rest l h.1 e))

at-end : (ds : List ℕ) (c : ℕ) (rest : List ℕ) → get_or (map digit_byte ds ++ c ∷ rest) (length ds) 0 ≡ c
at-end [] c rest = refl
at-end (d ∷ ds) c rest = at-end ds c rest

behind-end : (ds : List ℕ) (c : ℕ) (rest : List ℕ) → drop (suc (length ds)) (map digit_byte ds ++ c ∷ rest) ≡ rest
behind-end [] c rest = refl
behind-end (d ∷ ds) c rest = behind-end ds c rest

-- ---- Constants: a bare one in five digits; another by its length in three, H, and its number in sixty-four.

bare-reads : (ds rest : List ℕ) → Below 10 ds → digits_number 10 ds ≤ bare_largest → constant_at (map digit_byte ds ++ line_feed ∷ rest) ≡ found (S.constant (written true (bare_constant ds))) (length ds)
unfolding constant_at bare_at digit_bits folded digit_worth
bare-reads ds rest h l =
    rw (digits-read 10 ds line_feed rest (omega arith) h refl, at-end ds line_feed rest, le-leb (digits_number 10 ds) bare_largest l) refl

abbrev hexadecimal : ℕ
hexadecimal = 72

no-period : (d : ℕ) → eqb (digit_byte d) 46 ≡ false
no-period d = ne_eqb (digit_byte d) 46 (λ e. omega (arith, digit-high d, e))

based-reads : (ls : List ℕ) (n : ℕ) (ns rest : List ℕ) → Below 10 ls → Below 16 (n ∷ ns) → 0 < digits_number 10 ls → digits_number 10 ls ≤ longest
    → constant_at (map digit_byte ls ++ hexadecimal ∷ (map digit_byte (n ∷ ns) ++ line_feed ∷ rest)) ≡ found (S.constant (written false (binary_constant 4 false (digits_number 10 ls) (n ∷ ns)))) (length ls + 1 + length (n ∷ ns))
unfolding constant_at binary_at digit_bits folded digit_worth
based-reads ls n ns rest h k a b =
    rw (
      digits-read 10 ls hexadecimal (map digit_byte (n ∷ ns) ++ line_feed ∷ rest) (omega arith) h refl,
      at-end ls hexadecimal (map digit_byte (n ∷ ns) ++ line_feed ∷ rest),
      behind-end ls hexadecimal (map digit_byte (n ∷ ns) ++ line_feed ∷ rest),
      no-period n,
      digits-read 16 (n ∷ ns) line_feed rest (omega arith) k refl,
      lt-ltb 0 (length (n ∷ ns)) (omega arith),
      lt-ltb 0 (digits_number 10 ls) a,
      le-leb (digits_number 10 ls) longest b,
    ) refl

-- A constant starts at a digit.
digit-starts : (d : ℕ) (s : List ℕ) → d < 10 → item_at (digit_byte d) s ≡ constant_at (digit_byte d ∷ s)
unfolding item_at class_of
digit-starts d s h =
    rw (lt-ltb d 10 h, not-above 65 (48 + d) 90 (omega arith), not-above 97 (48 + d) 122 (omega arith), within-so 48 (48 + d) 57 (omega arith) (omega arith)) refl

bare-spells : (ds : List ℕ) → 0 < length ds → Below 10 ds → length ds ≤ longest_line → digits_number 10 ds ≤ bare_largest → Spells (S.constant (written true (bare_constant ds))) (map digit_byte ds)
bare-spells [] z h l m = absurd (omega (arith, z))
bare-spells (d ∷ ds) z h l m =
    let n = length-map (d ∷ ds) digit_byte in
    record {
      some_byte = omega arith;
      read-so = λ rest. digit-starts d (map digit_byte ds ++ line_feed ∷ rest) h.0 ∙ bare-reads (d ∷ ds) rest h m ∙ ap (found _) (sym n);
      plain = digits-plain (d ∷ ds);
      short = omega (arith, n, l);
    }

abbrev based_bytes : List ℕ → List ℕ → List ℕ
based_bytes ls ns = map digit_byte ls ++ hexadecimal ∷ map digit_byte ns

based-spells : (ls ns : List ℕ) → 0 < length ls → 0 < length ns → Below 10 ls → Below 16 ns → length ls + 1 + length ns ≤ longest_line → 0 < digits_number 10 ls → digits_number 10 ls ≤ longest
    → Spells (S.constant (written false (binary_constant 4 false (digits_number 10 ls) ns))) (based_bytes ls ns)
based-spells [] ns y z h k l a b = absurd (omega (arith, y))
based-spells (d ∷ ls) [] y z h k l a b = absurd (omega (arith, z))
based-spells (d ∷ ls) (n ∷ ns) y z h k l a b =
    let m : length (based_bytes (d ∷ ls) (n ∷ ns)) ≡ length (d ∷ ls) + 1 + length (n ∷ ns) =
    omega (arith, length-append (map digit_byte (d ∷ ls)) (hexadecimal ∷ map digit_byte (n ∷ ns)), length-map (d ∷ ls) digit_byte, length-map (n ∷ ns) digit_byte) in
    record {
      some_byte = omega arith;
      read-so = λ rest.
          ap start_of (append_assoc (map digit_byte (d ∷ ls)) (hexadecimal ∷ map digit_byte (n ∷ ns)) (line_feed ∷ rest))
          ∙ digit-starts d (map digit_byte ls ++ hexadecimal ∷ (map digit_byte (n ∷ ns) ++ line_feed ∷ rest)) h.0 ∙ based-reads (d ∷ ls) n ns rest h k a b ∙ ap (found _) (sym m);
      plain = plain-append (map digit_byte (d ∷ ls)) _ (digits-plain (d ∷ ls)) (omega arith, digits-plain (n ∷ ns));
      short = omega (arith, m, l);
    }

-- A bare constant in five digits; another by its length in three, H, and its number in sixty-four.
abbrev constant_bytes : Constant → List ℕ
constant_bytes c =
    cond c.bare (map digit_byte (digits_in 10 5 c.value.number)) (based_bytes (digits_in 10 3 c.value.length) (digits_in 16 64 c.value.number))

bare-same : (c : Constant) (ds : List ℕ) → c.bare ≡ true → c.value.length ≡ bare_length → c.value.number < 2 ^ bare_length → digits_number 10 ds ≡ c.value.number → written true (bare_constant ds) ≡ c
unfolding bare_constant decimal_constant right_justified
bare-same c ds e l h q = ap₂ written (sym e) (ap₂ value (sym l) (rw q (mod-eq_of_lt h)))

based-same : (c : Constant) (ls ns : List ℕ) → c.bare ≡ false → digits_number 10 ls ≡ c.value.length → c.value.number < 2 ^ c.value.length → digits_number 16 ns ≡ c.value.number
    → written false (binary_constant 4 false (digits_number 10 ls) ns) ≡ c
unfolding binary_constant right_justified
based-same c ls ns e l h q = rw (l, q, mod-eq_of_lt h) (ap₂ written (sym e) refl)

constant-spells : (c : Constant) → ConstantRight c → Spells (S.constant c) (constant_bytes c)
unfolding bare_length bare_largest longest longest_line
constant-spells c h = go c.bare refl
  where
    number : ℕ
    number = c.value.number

    go : (b : Bool) → c.bare ≡ b → Spells (S.constant c) (cond b (map digit_byte (digits_in 10 5 c.value.number)) (based_bytes (digits_in 10 3 c.value.length) (digits_in 16 64 c.value.number)))
    go true e =
        let l : c.value.length ≡ 16 = h.bare-length e in
        let m : c.value.number < 2 ^ 16 = rw l at h.fits in
        let ds = digits_in 10 5 c.value.number in
        let q = digits-say 10 5 c.value.number (omega arith) (omega (arith, m)) in
        let k = digits_long 10 5 c.value.number in
        rw (bare-same c ds e l m q) at (bare-spells ds (omega (arith, k)) (digits-below 10 5 c.value.number (omega arith)) (omega (arith, k)) (omega (arith, q, m)))
    go false e =
        let ls = digits_in 10 3 c.value.length in
        let ns = digits_in 16 64 c.value.number in
        let a = h.some_bits in
        let b = h.at-most in
        let p = digits-say 10 3 c.value.length (omega arith) (omega (arith, b)) in
        let q = digits-say 16 64 c.value.number (omega arith) (lt_of_lt_of_le h.fits (pow_mono b)) in
        let i = digits_long 10 3 c.value.length in
        let j = digits_long 16 64 c.value.number in
        rw (based-same c ls ns e p h.fits q) at
        (based-spells ls ns (omega (arith, i)) (omega (arith, j)) (digits-below 10 3 c.value.length (omega arith)) (digits-below 16 64 c.value.number (omega arith)) (omega (arith, i, j)) (omega (arith, p, a)) (omega (arith, p, b)))

-- ---- Words, one to a line.

abbrev spelled : Word → List ℕ
spelled (W.name n p) = n
spelled (W.constant c p) = constant_bytes c
spelled (W.sign k p) = get_or spellings (k - hash) []

abbrev item_of : Word → Item
item_of (W.name n p) = S.named n
item_of (W.constant c p) = S.constant c
item_of (W.sign k p) = S.sign k

unfoldable pub in_bytes : List Word → List ℕ
in_bytes [] = []
in_bytes (w ∷ ws) = spelled w ++ line_feed ∷ in_bytes ws

-- Every sign is a symbol or a reserved word.
abbrev pub Signed : Word → Type 0
Signed (W.name n p) = Unit {0}
Signed (W.constant c p) = Unit {0}
Signed (W.sign k p) = SignRight k

abbrev pub AllSigned : List Word → Type 0
AllSigned [] = Unit {0}
AllSigned (w ∷ ws) = Signed w × AllSigned ws

word-spells : (w : Word) → WordRight w → Signed w → Spells (item_of w) (spelled w)
word-spells (W.name n p) h k = name-spells n h
word-spells (W.constant c p) h k = constant-spells c h
word-spells (W.sign n p) h k = sign-spells n k

-- A word without its place.
abbrev pub unplaced : Word → Word
unplaced (W.name n p) = W.name n here
unplaced (W.constant c p) = W.constant c here
unplaced (W.sign k p) = W.sign k here

scan-on : (i : Item) (bs rest : List ℕ) (k at : ℕ) → Spells i bs → scan_from (suc (suc k)) at (bs ++ line_feed ∷ rest) ≡ noted (position at) i (scan_from k (at + length bs + 1) rest)
unfolding scan_from item_at class_of
scan-on i [] rest k at h = absurd (omega (arith, h.some_byte))
scan-on i (b ∷ bs) rest k at h =
    ap (λ (f : Found). noted (position at) f.item (scan_from (suc k) (at + f.size) (drop f.size (b ∷ (bs ++ line_feed ∷ rest))))) (h.read-so rest)
    ∙ ap (λ (s : List ℕ). noted (position at) i (scan_from (suc k) (at + length (b ∷ bs)) s)) (drop_at (b ∷ bs) (line_feed ∷ rest) (length (b ∷ bs)) refl)

noted-same : (p : Position) (w : Word) (r : Scanned) → (map unplaced (noted p (item_of w) r).words ≡ unplaced w ∷ map unplaced r.words) × ((noted p (item_of w) r).faults ≡ r.faults)
noted-same p (W.name n q) r = (refl, refl)
noted-same p (W.constant c q) r = (refl, refl)
noted-same p (W.sign k q) r = (refl, refl)

scanned-back : (ws : List Word) (k at : ℕ) → WordsRight ws → AllSigned ws → length (in_bytes ws) ≤ k
    → (map unplaced (scan_from k at (in_bytes ws)).words ≡ map unplaced ws) × ((scan_from k at (in_bytes ws)).faults ≡ [])
unfolding in_bytes scan_from
scanned-back [] zero at h g l = (refl, refl)
scanned-back [] (suc k) at h g l = (refl, refl)
scanned-back (w ∷ ws) zero at h g l = absurd (omega (arith, l, length-append (spelled w) (line_feed ∷ in_bytes ws)))
scanned-back (w ∷ ws) (suc zero) at h g l = absurd (omega (arith, l, length-append (spelled w) (line_feed ∷ in_bytes ws), (word-spells w h.0 g.0).some_byte))
scanned-back (w ∷ ws) (suc (suc k)) at h g l =
    let s = word-spells w h.0 g.0 in
    let next = at + length (spelled w) + 1 in
    let r = scan_from k next (in_bytes ws) in
    let more = scanned-back ws k next h.1 g.1 (omega (arith, l, length-append (spelled w) (line_feed ∷ in_bytes ws), s.some_byte)) in
    let n = noted-same (position at) w r in
    rw (scan-on (item_of w) (spelled w) (in_bytes ws) k at s) (n.0 ∙ ap (λ (xs : List Word). unplaced w ∷ xs) more.0, n.1 ∙ more.1)

-- ---- No line is too long.

no-pass : (w v : ℕ) → v ≤ longest_line → too_wide_after w v ≡ false
unfolding too_wide_after longest_line
no-pass w v h = go (leb w 132) (ltb 132 v) refl
  where
    go : (a b : Bool) → ltb 132 v ≡ b → (a && b) ≡ false
    go true true q = absurd (omega (arith, ltb-true 132 v q, h))
    go true false q = refl
    go false b q = refl

column : (w b : ℕ) (t : List ℕ) → 32 < b → width_after w b t ≡ w + 1
unfolding width_after
column w b t h = rw (ne_eqb b line_feed (λ e. omega (arith, h, e)), ne_eqb b tab (λ e. omega (arith, h, e)), ne_eqb b carriage_return (λ e. omega (arith, h, e))) refl

line-fine : (bs rest : List ℕ) (w at : ℕ) → Plain bs → w + length bs ≤ longest_line → ((at : ℕ) → long_lines 0 at rest ≡ []) → long_lines w at (bs ++ line_feed ∷ rest) ≡ []
unfolding long_lines width_after
line-fine [] rest w at h l e = rw (no-pass w 0 (omega arith)) (e (suc at))
line-fine (b ∷ bs) rest w at h l e = rw (column w b (bs ++ line_feed ∷ rest) h.0, no-pass w (w + 1) (omega (arith, l))) (line-fine bs rest (w + 1) (suc at) h.1 (omega (arith, l)) e)

lines-fine : (ws : List Word) (at : ℕ) → WordsRight ws → AllSigned ws → long_lines 0 at (in_bytes ws) ≡ []
unfolding in_bytes long_lines
lines-fine [] at h g = refl
lines-fine (w ∷ ws) at h g =
    let s = word-spells w h.0 g.0 in
    line-fine (spelled w) (in_bytes ws) 0 at s.plain (omega (arith, s.short)) (λ n. lines-fine ws n h.1 g.1)

-- ---- The whole.

-- Bytes with these words and no fault among them.
pub record InBytes (ws : List Word) : Type 0 where
  pub text : List ℕ
  pub same-words : map unplaced (scan text).words ≡ map unplaced ws
  pub words-fine : word_fault text ≡ none

pub words-of-bytes : (ws : List Word) → WordsRight ws → AllSigned ws → InBytes ws
unfolding scan word_fault word_faults least
words-of-bytes ws h g =
    let s = scanned-back ws (length (in_bytes ws)) 0 h g (omega arith) in
    record { text = in_bytes ws; same-words = s.0; words-fine = rw (s.1, lines-fine ws 0 h g) refl }
