-- LONGEST-MATCH: what scanning takes at the start of a text is a word, and no longer part of the text from its start is one; nor is one longer than what it passes over or refuses. Assumes nothing.
use Rattle.std.specs.Prelude.{Bool, true, false, cond, ◌≡◌, eqb, length, take}
use mathlib.Core.List.{List, [], ◌∷◌, ◌++◌}
use Rattle.std.proofs.Math.Path.{refl, ap}
use Rattle.std.proofs.Common.{sym, subst, ◌∙◌, arith, le-leb, take-append-drop, drop-drop, length-take-le}
use Prim.Native.Nat.{ℕ, zero, suc, ◌+◌, ◌≤◌, ◌<◌}
use Rattle.std.proofs.lemmas.Bool.{lt-leb}
use Rattle.std.proofs.Math.ListN.{drop}
use Rattle.language.specs.Characters.{blank_class, class_of, digit_class, is_blank, is_digit, is_letter, letter_class, member, quote, quote_class, refused_class, symbol_class, symbols as symbol_bytes}
use Rattle.language.specs.Scan as Scan
use Rattle.language.specs.Scan.{Item, comment_at, constant_at, found, gap, is_name_part, item_at, name_at, span, symbol_at, wrong}
use Rattle.language.specs.declared.refusals.Refusal.TheVariants.{BadCharacter}
use Rattle.language.specs.WordStage.{Scanned, noted, scan, scan_from}
use Rattle.language.specs.Words.{Position, position}
use Rattle.about_reading.specs.GrammarStands.{WordsHere}
use Rattle.about_reading.proofs.SpelledBytes.{all_map, decimal-range, digit-test, letter-test, part-test, range-decimal, span-all, span-le, span-most, test-letter, test-part}
use Rattle.about_reading.proofs.SpelledConstants.{constant-at, constant-longest}
use Rattle.about_reading.proofs.SpelledSymbols.{Taken, listed-class, symbol-at, symbol-longest}
use Rattle.about_reading.specs.Spelling.{All, Begins, Decimal, Digits, IsConstant, IsWord, Letter, LetterOrDigit, Listed, Longest, digits, more, symbols}

-- ---- The class of a word's first byte.

letter-class : (b : ℕ) → Letter b → class_of b ≡ letter_class
unfolding class_of
letter-class b h = rw (letter-test b h)

decimal-class : (b : ℕ) → Decimal b → class_of b ≡ digit_class
unfolding class_of
decimal-class b h =
    let r = decimal-range h in
    let a : b < 65 = omega (arith, r.high) in
    rw (le-leb b 90 (omega arith), lt-leb 65 b a, le-leb b 122 (omega arith), lt-leb 97 b (omega arith), le-leb b 57 r.high, le-leb 48 b r.low)

-- What a word that begins with the byte b is.
data Shape (b : ℕ) (u : List ℕ) : Type 0 where
  a-name : Letter b → All LetterOrDigit u → Shape b u
  a-constant : Decimal b → IsConstant (b ∷ u) → Shape b u
  a-symbol : Listed (b ∷ u) symbols → Shape b u

digits-first : {l : List ℕ} → Digits 10 l → (r : List ℕ) {b : ℕ} {u : List ℕ} → l ++ r ≡ b ∷ u → Decimal b
digits-first (digits {b = c} h a) r {b} {u} e = let z : c ≡ b = cc in rw (← z) h

constant-first : {w : List ℕ} → IsConstant w → {b : ℕ} {u : List ℕ} → w ≡ b ∷ u → Decimal b
constant-first (IsConstant.bare (digits {b = c} h a)) {b} e = let z : c ≡ b = cc in rw (← z) h
constant-first (IsConstant.based {l} {s} {c} g d h) e = digits-first g (c ∷ s) e
constant-first (IsConstant.justified {l} {s} {c} g d h) e = digits-first g (c ∷ 46 ∷ s) e
constant-first (IsConstant.decimal {l} {s} {c} g d h) e = digits-first g (c ∷ s) e

shape_of : {w : List ℕ} → IsWord w → {b : ℕ} {u : List ℕ} → w ≡ b ∷ u → Shape b u
shape_of (IsWord.name {b = c} {s = s} h a) {b} {u} e =
    let z : c ≡ b = cc in
    let y : s ≡ u = cc in
    a-name (rw (← z) h) (rw (← y) a)
shape_of (IsWord.constant h) {b} {u} e = a-constant (constant-first h e) (subst IsConstant e h)
shape_of (IsWord.symbol h) {b} {u} e = a-symbol (subst (λ (w : List ℕ). Listed w symbols) e h)

-- ---- What scanning does by the class of the first byte.

module _ (b : ℕ) (s : List ℕ) where
  item-letter : class_of b ≡ letter_class → item_at b s ≡ name_at (b ∷ s)
  unfolding item_at
  item-letter e = rw e

  item-digit : class_of b ≡ digit_class → item_at b s ≡ constant_at (b ∷ s)
  unfolding item_at
  item-digit e = rw e

  item-symbol : class_of b ≡ symbol_class → item_at b s ≡ symbol_at (b ∷ s)
  unfolding item_at
  item-symbol e = rw e

-- ---- No longer word.

name-most : (b : ℕ) (u v : List ℕ) → Letter b → All LetterOrDigit u → suc (length u) ≤ (name_at (b ∷ (u ++ v))).size
unfolding name_at
name-most b u v h a = span-most is_name_part (more (part-test b (LetterOrDigit.letter h)) (all_map part-test a)) v

shape-most : (b : ℕ) (u v : List ℕ) → Shape b u → suc (length u) ≤ (item_at b (u ++ v)).size
shape-most b u v (a-name h a) = rw (item-letter b (u ++ v) (letter-class b h)) (name-most b u v h a)
shape-most b u v (a-constant h c) = rw (item-digit b (u ++ v) (decimal-class b h)) (constant-longest c v)
shape-most b u v (a-symbol l) = rw (item-symbol b (u ++ v) (listed-class l)) (symbol-longest (b ∷ u) v l)

-- Whatever is found: no word with which the text begins is longer.
pub no-longer-word : (b : ℕ) (s u v : List ℕ) → b ∷ s ≡ u ++ v → IsWord u → length u ≤ (item_at b s).size
no-longer-word b s [] v e h = omega arith
no-longer-word b s (a ∷ u) v e h =
    let z : a ≡ b = cc in
    let y : u ++ v ≡ s = cc in
    subst (λ (x : ℕ). suc (length u) ≤ (item_at x s).size) z (subst (λ (x : List ℕ). suc (length u) ≤ (item_at a x).size) y (shape-most a u v (shape_of h refl)))

-- ---- What is taken is a word.

-- What a byte may begin.
data Opens (b : ℕ) : Type 0 where
  opens-name : Letter b → Opens b
  opens-constant : Decimal b → Opens b
  opens-symbol : class_of b ≡ symbol_class → Opens b
  opens-none : ((s : List ℕ) → Taken (item_at b s).item → ⊥) → Opens b

-- A class of none of the three: blanks, comments and what is refused.
none-taken : (b : ℕ) (c : ℕ) → class_of b ≡ c → (s : List ℕ)
    → (Taken (cond (eqb c letter_class) (name_at (b ∷ s)) (cond (eqb c digit_class) (constant_at (b ∷ s)) (cond (eqb c blank_class) (found gap 1)
    (cond (eqb c quote_class) (comment_at s) (cond (eqb c symbol_class) (symbol_at (b ∷ s)) (found (wrong BadCharacter) 1)))))).item → ⊥)
    → Taken (item_at b s).item → ⊥
unfolding item_at
none-taken b c e s h k = h (rw e at k)

opens : (b : ℕ) → Opens b
unfolding class_of comment_at
opens b = go1 (is_letter b) refl
  where
    go5 : is_letter b ≡ false → is_digit b ≡ false → is_blank b ≡ false → eqb b quote ≡ false → (t : Bool) → member b symbol_bytes ≡ t → Opens b
    go5 e f g h true q = opens-symbol (rw (e, f, g, h, q))
    go5 e f g h false q = opens-none (λ s. none-taken b refused_class (rw (e, f, g, h, q)) s (λ k. k))

    go4 : is_letter b ≡ false → is_digit b ≡ false → is_blank b ≡ false → (t : Bool) → eqb b quote ≡ t → Opens b
    go4 e f g true q = opens-none (λ s. none-taken b quote_class (rw (e, f, g, q)) s (λ k. k))
    go4 e f g false q = go5 e f g q (member b symbol_bytes) refl

    go3 : is_letter b ≡ false → is_digit b ≡ false → (t : Bool) → is_blank b ≡ t → Opens b
    go3 e f true q = opens-none (λ s. none-taken b blank_class (rw (e, f, q)) s (λ k. k))
    go3 e f false q = go4 e f q (eqb b quote) refl

    go2 : is_letter b ≡ false → (t : Bool) → is_digit b ≡ t → Opens b
    go2 e true q = opens-constant (range-decimal b q)
    go2 e false q = go3 e q (is_blank b) refl

    go1 : (t : Bool) → is_letter b ≡ t → Opens b
    go1 true q = opens-name (test-letter b q)
    go1 false q = go2 q (is_digit b) refl

name-begun : (b : ℕ) (s : List ℕ) → Letter b → Begins IsWord (b ∷ s) (name_at (b ∷ s)).size
unfolding name_at span
name-begun b s h =
    rw (part-test b (LetterOrDigit.letter h))
    (record {
      word = b ∷ take (span is_name_part s) s;
      rest = drop (span is_name_part s) s;
      begins = ap (λ (x : List ℕ). b ∷ x) (sym (take-append-drop (span is_name_part s) s));
      size = ap suc (length-take-le (span is_name_part s) s (span-le is_name_part s));
      holds = IsWord.name h (all_map test-part (span-all is_name_part s));
    })

begun : (b : ℕ) (s : List ℕ) → Opens b → Taken (item_at b s).item → Begins IsWord (b ∷ s) (item_at b s).size
begun b s (opens-name h) k = rw (item-letter b s (letter-class b h)) (name-begun b s h)
begun b s (opens-constant h) k =
    let e = item-digit b s (decimal-class b h) in
    let f = constant-at b s (digit-test 10 b h) (rw e at k) in
    rw e (record { word = f.word; rest = f.rest; begins = f.begins; size = f.size; holds = IsWord.constant f.holds })
begun b s (opens-symbol c) k =
    let e = item-symbol b s c in
    let f = symbol-at (b ∷ s) (rw e at k) in
    rw e (record { word = f.word; rest = f.rest; begins = f.begins; size = f.size; holds = IsWord.symbol f.holds })
begun b s (opens-none h) k = absurd (h s k)

-- What is taken at the start of the text b s is the longest word with which it begins.
pub longest-match : (b : ℕ) (s : List ℕ) → Taken (item_at b s).item → Longest (b ∷ s) (item_at b s).size
longest-match b s h = record { taken = begun b s (opens b) h; no_longer = no-longer-word b s }

-- ---- The words of a whole text: each is the longest word with which the text from its place on begins.

module _ (text : List ℕ) where
  abbrev pub LongestAt : Position → Type 0
  LongestAt p = (n : ℕ) × Longest (drop p.place text) n

  noted-longest : (p : Position) (i : Item) (r : Scanned) → (Taken i → LongestAt p) → WordsHere LongestAt r.words → WordsHere LongestAt (noted p i r).words
  noted-longest p Scan.gap r h g = g
  noted-longest p (Scan.named n) r h g = (h tt, g)
  noted-longest p (Scan.constant c) r h g = (h tt, g)
  noted-longest p (Scan.sign k) r h g = (h tt, g)
  noted-longest p (Scan.wrong n) r h g = g

  scanned-longest : (k at : ℕ) (s : List ℕ) → drop at text ≡ s → WordsHere LongestAt (scan_from k at s).words
  unfolding scan_from
  scanned-longest zero at s e = tt
  scanned-longest (suc k) at [] e = tt
  scanned-longest (suc k) at (b ∷ s) e =
      let f = item_at b s in
      noted-longest (position at) f.item _ (λ h. (f.size, rw e (longest-match b s h)))
      (scanned-longest k (at + f.size) (drop f.size (b ∷ s)) (sym (drop-drop f.size at text) ∙ ap (λ (x : List ℕ). drop f.size x) e))

  pub words-longest : WordsHere LongestAt (scan text).words
  unfolding scan
  words-longest = scanned-longest (length text) 0 text refl
