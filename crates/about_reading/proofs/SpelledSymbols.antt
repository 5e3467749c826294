-- Of the symbols with which a text begins, the scanner finds the longest. Assumes nothing.
use Rattle.std.specs.Prelude.{Bool, true, false, cond, ◌||◌, ◌&&◌, List, [], ◌∷◌, ◌++◌, ◌≡◌, refl, ℕ, ◌≤◌, eqb, leb, drop, length, take}
use Rattle.std.proofs.Common.{sym, subst, ◌∙◌, arith, eq-eqb, eqb-true, leb-true, take-append-drop}
use Prim.Native.String.{String}
use Rattle.std.proofs.Math.Seq.{take-append_seam}
use Rattle.language.specs.Characters.{class_of, symbol_class}
use Rattle.language.specs.Scan as Scan
use Rattle.language.specs.Scan.{Item, bytes, same, spelled_symbols, symbol_among}
use Rattle.about_grammar.specs.Stacks.{false-true as no}
use Rattle.about_reading.specs.Spelling.{Begins, Listed, here, later, symbols}

pub same-so : (s t : List ℕ) → same s t ≡ true → s ≡ t
unfolding same
same-so [] [] e = refl
same-so [] (b ∷ t) e = no e
same-so (a ∷ s) [] e = no e
same-so (a ∷ s) (b ∷ t) e = go (eqb a b) refl (same-so s t) e
  where
    go : (x : Bool) → eqb a b ≡ x → (same s t ≡ true → s ≡ t) → x && same s t ≡ true → a ∷ s ≡ b ∷ t
    go true q on k = let z = on k in let y = eqb-true a b q in cc
    go false q on k = no k

so-same : (s : List ℕ) → same s s ≡ true
unfolding same
so-same [] = refl
so-same (a ∷ s) = rw (eq-eqb a a refl, so-same s)

-- ---- The scanner's list and the papers' have the same symbols: each is found in the other.

-- A spelling is among the scanner's, or among some quoted ones.
unfoldable known : List Scan.Spelled → List ℕ → Bool
known [] u = false
known (x ∷ xs) u = same u x.spelling || known xs u

unfoldable quoted : List String → List ℕ → Bool
quoted [] u = false
quoted (t ∷ ts) u = same u (bytes t) || quoted ts u

unfoldable all_known : List String → Bool
all_known [] = true
all_known (t ∷ ts) = known spelled_symbols (bytes t) && all_known ts

unfoldable all_quoted : List Scan.Spelled → Bool
all_quoted [] = true
all_quoted (x ∷ xs) = quoted symbols x.spelling && all_quoted xs

all_known_lem : all_known symbols ≡ true
unfolding all_known known same bytes spelled_symbols
all_known_lem = refl

all-quoted : all_quoted spelled_symbols ≡ true
unfolding all_quoted quoted same bytes spelled_symbols
all-quoted = refl

and_left : (a b : Bool) → a && b ≡ true → a ≡ true
and_left true b e = refl
and_left false b e = e

and_right : (a b : Bool) → a && b ≡ true → b ≡ true
and_right true b e = e
and_right false b e = no e

listed-known : (ts : List String) {u : List ℕ} → all_known ts ≡ true → Listed u ts → known spelled_symbols u ≡ true
unfolding all_known
listed-known (t ∷ ts) e (here q) = rw q (and_left (known spelled_symbols (bytes t)) (all_known ts) e)
listed-known (t ∷ ts) e (later h) = listed-known ts (and_right (known spelled_symbols (bytes t)) (all_known ts) e) h
listed-known [] {u = u} e x'' = elim x'' [ ]

quoted-listed : (ts : List String) (u : List ℕ) → quoted ts u ≡ true → Listed u ts
unfolding quoted
quoted-listed [] u e = no e
quoted-listed (t ∷ ts) u e = go (same u (bytes t)) refl (quoted-listed ts u) e
  where
    go : (x : Bool) → same u (bytes t) ≡ x → (quoted ts u ≡ true → Listed u ts) → x || quoted ts u ≡ true → Listed u (t ∷ ts)
    go true q on k = here (same-so u (bytes t) q)
    go false q on k = later (on k)

-- ---- The longer ones come first.

-- No spelling is longer than the one before it, the first having at most n bytes.
unfoldable falling : ℕ → List Scan.Spelled → Bool
falling n [] = true
falling n (x ∷ xs) = leb (length x.spelling) n && falling (length x.spelling) xs

-- The longest symbols have three characters.
longest_symbol : ℕ
longest_symbol = 3

longest-first : falling longest_symbol spelled_symbols ≡ true
unfolding falling bytes spelled_symbols longest_symbol
longest-first = refl

falling-so : (n : ℕ) (xs : List Scan.Spelled) (u : List ℕ) → falling n xs ≡ true → known xs u ≡ true → length u ≤ n
unfolding falling known
falling-so n [] u f e = no e
falling-so n (x ∷ xs) u f e = go (same u x.spelling) refl (falling-so (length x.spelling) xs u (and_right (leb (length x.spelling) n) (falling (length x.spelling) xs) f)) e
  where
    most : length x.spelling ≤ n
    most = leb-true _ n (and_left (leb (length x.spelling) n) (falling (length x.spelling) xs) f)

    go : (t : Bool) → same u x.spelling ≡ t → (known xs u ≡ true → length u ≤ length x.spelling) → t || known xs u ≡ true → length u ≤ n
    go true q on k = rw (same-so u x.spelling q) most
    go false q on k = let z = on k in omega (arith, most)

begins-same : (x u v : List ℕ) → same u x ≡ true → same x (take (length x) (u ++ v)) ≡ true
begins-same x u v e = let z = same-so u x e in rw (z, take-append_seam x v) (so-same x)

-- A symbol with which the text begins is no longer than the one found.
symbol-most : (n : ℕ) (xs : List Scan.Spelled) (u v : List ℕ) → falling n xs ≡ true → known xs u ≡ true → length u ≤ (symbol_among xs (u ++ v)).size
unfolding falling known symbol_among
symbol-most n [] u v f e = no e
symbol-most n (x ∷ xs) u v f e = go (symbol-most (length x.spelling) xs u v after) (same x.spelling (take (length x.spelling) (u ++ v))) refl
  where
    after : falling (length x.spelling) xs ≡ true
    after = and_right (leb (length x.spelling) n) (falling (length x.spelling) xs) f

    among : (t : Bool) → same u x.spelling ≡ t → t || known xs u ≡ true → same x.spelling (take (length x.spelling) (u ++ v)) ≡ false → known xs u ≡ true
    among true q k h = no (sym h ∙ begins-same x.spelling u v q)
    among false q k h = k

    first : (t : Bool) → same u x.spelling ≡ t → t || known xs u ≡ true → length u ≤ length x.spelling
    first true q k = rw (same-so u x.spelling q) (omega arith)
    first false q k = falling-so (length x.spelling) xs u after k

    go : (known xs u ≡ true → length u ≤ (symbol_among xs (u ++ v)).size) → (t : Bool) → same x.spelling (take (length x.spelling) (u ++ v)) ≡ t
        → length u ≤ (cond t (Scan.found (Scan.sign x.kind) (length x.spelling)) (symbol_among xs (u ++ v))).size
    go on true q = first (same u x.spelling) refl e
    go on false q = on (among (same u x.spelling) refl e q)

-- ---- What is found is one of them, and the text begins with it.

-- An item that is a word, and neither a gap nor refused.
abbrev pub Taken : Item → Type 0
Taken Scan.gap = ⊥
Taken (Scan.named n) = Unit {0}
Taken (Scan.constant c) = Unit {0}
Taken (Scan.sign k) = Unit {0}
Taken (Scan.wrong r) = ⊥

abbrev pub Symbol : List ℕ → Type 0
Symbol u = Listed u symbols

symbol-found : (xs : List Scan.Spelled) (s : List ℕ) → all_quoted xs ≡ true → Taken (symbol_among xs s).item → Begins Symbol s (symbol_among xs s).size
unfolding symbol_among all_quoted
symbol-found [] s a h = absurd h
symbol-found (x ∷ xs) s a h = go (symbol-found xs s (and_right (quoted symbols x.spelling) (all_quoted xs) a)) (same x.spelling (take (length x.spelling) s)) refl h
  where
    here-so : same x.spelling (take (length x.spelling) s) ≡ true → Begins Symbol s (length x.spelling)
    here-so q = record {
      word = x.spelling;
      rest = drop (length x.spelling) s;
      begins = subst (λ (w : List ℕ). s ≡ w ++ drop (length x.spelling) s) (sym (same-so _ _ q)) (sym (take-append-drop (length x.spelling) s));
      size = refl;
      holds = quoted-listed symbols x.spelling (and_left (quoted symbols x.spelling) (all_quoted xs) a);
    }

    go : (Taken (symbol_among xs s).item → Begins Symbol s (symbol_among xs s).size) → (t : Bool) → same x.spelling (take (length x.spelling) s) ≡ t
        → Taken (cond t (Scan.found (Scan.sign x.kind) (length x.spelling)) (symbol_among xs s)).item
        → Begins Symbol s (cond t (Scan.found (Scan.sign x.kind) (length x.spelling)) (symbol_among xs s)).size
    go on true q k = here-so q
    go on false q k = on k

pub symbol-at : (s : List ℕ) → Taken (Scan.symbol_at s).item → Begins Symbol s (Scan.symbol_at s).size
symbol-at s h = symbol-found spelled_symbols s all-quoted h

pub symbol-longest : (u v : List ℕ) → Listed u symbols → length u ≤ (Scan.symbol_at (u ++ v)).size
symbol-longest u v h = symbol-most longest_symbol spelled_symbols u v longest-first (listed-known symbols all_known_lem h)

-- ---- The first byte of a symbol is of the class of symbols.

abbrev symbol_first : List ℕ → Bool
symbol_first [] = false
symbol_first (b ∷ u) = eqb (class_of b) symbol_class

unfoldable all_first : List String → Bool
all_first [] = true
all_first (t ∷ ts) = symbol_first (bytes t) && all_first ts

all_first_lem : all_first symbols ≡ true
unfolding all_first bytes class_of
all_first_lem = refl

listed-first : (ts : List String) {u : List ℕ} → all_first ts ≡ true → Listed u ts → symbol_first u ≡ true
unfolding all_first
listed-first (t ∷ ts) e (here q) = rw q (and_left (symbol_first (bytes t)) (all_first ts) e)
listed-first (t ∷ ts) e (later h) = listed-first ts (and_right (symbol_first (bytes t)) (all_first ts) e) h
listed-first [] {u = u} e x'' = elim x'' [ ]

pub listed-class : {b : ℕ} {u : List ℕ} → Listed (b ∷ u) symbols → class_of b ≡ symbol_class
listed-class h = eqb-true _ _ (listed-first symbols all_first_lem h)
