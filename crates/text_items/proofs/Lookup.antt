-- Reserved words are looked for among those that begin alike, and symbols among those of one size, the longest first.
use mathlib.Core.Bool.{Bool, true, false, cond, not, ◌&&◌, false≢true}
use mathlib.Core.List.{List, [], ◌∷◌, ◌++◌, map}
use mathlib.Core.Path.{◌≡◌, ◌∙◌, ap, ap₂, sym, refl}
use Prim.Native.Nat.{ℕ, zero, suc}
use lib.Dec.{eqb}
use lib.ListN.{length, get_or, take}
use borrow.Author.Tests.{eq-eqb, eqb-true, ne_eqb, not-true}
use Rattle.language.specs.Characters.{folded}
use Rattle.language.specs.declared.refusals.Refusal.TheVariants.{BadCharacter}
use Rattle.language.specs.Scan.{Reserved, Spelled, bytes, found, reserved_among, reserved_kind, reserved_words, same, sign, spelled_symbols, symbol_among, symbol_at, wrong}
use Rattle.text_characters.proofs.Table.{first, second}
use Rattle.std.specs.Prelude.{Option, None, Some}
use Rattle.std.specs.Option.{is_some}
use Rattle.std.proofs.lemmas.Option.{none-some, same_Some}
use Rattle.text_items.specs.Tables.{beginning, unless_zero, kind_with, of_one, of_three, of_two, only_if, symbol_kind}

-- ---- A name that begins otherwise than a reserved word is not that word.

begins-otherwise : (s w : List ℕ) → eqb (get_or s 0 0) (get_or w 0 0) ≡ false → same s w ≡ false
unfolding same
begins-otherwise [] [] e = absurd (false≢true (sym e))
begins-otherwise [] (x ∷ w) e = refl
begins-otherwise (b ∷ s) [] e = refl
begins-otherwise (b ∷ s) (x ∷ w) e = ap (λ (q : Bool). q && same s w) e

only-beginning : (rs : List Reserved) (s : List ℕ) → reserved_among (beginning (get_or s 0 0) rs) s ≡ reserved_among rs s
unfolding beginning reserved_among
only-beginning [] s = refl
only-beginning (r ∷ rs) s = go (eqb (get_or s 0 0) (get_or r.letters 0 0)) refl (beginning (get_or s 0 0) rs) (only-beginning rs s)
  where
    go : (q : Bool) → eqb (get_or s 0 0) (get_or r.letters 0 0) ≡ q → (others : List Reserved) → reserved_among others s ≡ reserved_among rs s
        → reserved_among (only_if q r others) s ≡ cond (same s r.letters) r.kind (reserved_among rs s)
    go true e others more = ap (cond (same s r.letters) r.kind) more
    go false e others more = more ∙ sym (rw (begins-otherwise s r.letters e))

module _ (r : Reserved) (rs : List Reserved) (s : List ℕ) where
  pub among-here : same s r.letters ≡ true → unless_zero r.kind ≡ unless_zero (reserved_among (r ∷ rs) s)
  unfolding reserved_among
  among-here e = sym (rw e)

  pub among_next : (k : Option ℕ) → same s r.letters ≡ false → k ≡ unless_zero (reserved_among rs s) → k ≡ unless_zero (reserved_among (r ∷ rs) s)
  unfolding reserved_among
  among_next k e more = more ∙ sym (rw e)

pub among-last : (r : Reserved) (s : List ℕ) (k : Option ℕ) → eqb r.kind 0 ≡ false → k ≡ cond (same s r.letters) (Some r.kind) None → k ≡ unless_zero (reserved_among (r ∷ []) s)
unfolding reserved_among
among-last r s k h e = e ∙ go (same s r.letters)
  where
    go : (q : Bool) → cond q (Some r.kind) None ≡ unless_zero (cond q r.kind 0)
    go true = sym (rw h)
    go false = refl

-- What is told of a number by whether there is one.
pub some-unless : (k : ℕ) {n : ℕ} → Some k ≡ unless_zero n → (k ≡ n) × (k ≡ 0 → ⊥)
some-unless k {n} e = go (eqb n 0) refl e
  where
    go : (q : Bool) → eqb n 0 ≡ q → Some k ≡ cond q None (Some n) → (k ≡ n) × (k ≡ 0 → ⊥)
    go true z f = absurd (none-some k (sym f))
    go false z f = let same : k ≡ n = same_Some k n f in (same, λ h. false≢true (sym z ∙ eq-eqb n 0 (sym same ∙ h)))

pub zero-is-none : (r : Bool) (n : ℕ) {o : Option ℕ} → o ≡ unless_zero n → is_some o ≡ not r → r ≡ eqb n 0
zero-is-none r n e h = go r (eqb n 0) (sym (ap is_some e) ∙ h)
  where
    go : (r q : Bool) → is_some (cond q None (Some n)) ≡ not r → r ≡ q
    go true true f = refl
    go true false f = absurd (false≢true (sym f))
    go false true f = absurd (false≢true f)
    go false false f = refl

pub none-unless : {n : ℕ} → None ≡ unless_zero n → 0 ≡ n
none-unless {n} e = go (eqb n 0) refl e
  where
    go : (q : Bool) → eqb n 0 ≡ q → None ≡ cond q None (Some n) → 0 ≡ n
    go true z f = sym (eqb-true n 0 z)
    go false z f = absurd (none-some n f)

first-folded : (s : List ℕ) → get_or (map folded s) 0 0 ≡ folded (get_or s 0 0)
unfolding folded
first-folded [] = refl
first-folded (b ∷ s) = refl

-- The first letter is b, and its capital is l.
module _ (s : List ℕ) (b l : ℕ) (eb : b ≡ get_or s 0 0) (el : l ≡ folded b) where
  pub kind-with : (k : ℕ) → l ≡ k → kind_with k (map folded s) ≡ reserved_kind (map folded s)
  unfolding kind_with
  kind-with k e =
      ap (λ (n : ℕ). reserved_among (beginning n reserved_words) (map folded s)) (sym e ∙ el ∙ ap folded eb ∙ sym (first-folded s))
      ∙ only-beginning reserved_words (map folded s)

  pub kind-none : beginning l reserved_words ≡ [] → 0 ≡ reserved_kind (map folded s)
  unfolding kind_with reserved_among
  kind-none e = sym (ap (λ (rs : List Reserved). reserved_among rs (map folded s)) e) ∙ kind-with l refl

-- ---- Symbols of one size.

eqb-sym : (a b : ℕ) → eqb a b ≡ eqb b a
eqb-sym a b = go (eqb a b) refl
  where
    go : (t : Bool) → eqb a b ≡ t → eqb a b ≡ eqb b a
    go true e = e ∙ sym (eq-eqb b a (sym (eqb-true a b e)))
    go false e = e ∙ sym (ne_eqb b a (λ q. false≢true (sym e ∙ eq-eqb a b (sym q))))

-- n bytes from a place on, each 0 past the end.
abbrev pub bytes_from : ℕ → ℕ → List ℕ → List ℕ
bytes_from i zero s = []
bytes_from i (suc n) s = get_or s i 0 ∷ bytes_from (suc i) n s

bytes-behind : (i n b : ℕ) (t : List ℕ) → bytes_from (suc i) n (b ∷ t) ≡ bytes_from i n t
bytes-behind i zero b t = refl
bytes-behind i (suc n) b t = ap (λ (l : List ℕ). get_or t i 0 ∷ l) (bytes-behind (suc i) n b t)

unfoldable no_zero : List ℕ → Bool
no_zero [] = true
no_zero (x ∷ w) = not (eqb x 0) && no_zero w

-- Past the end of a text nothing is spelled.
spelled_by : (w s : List ℕ) → no_zero w ≡ true → same w (take (length w) s) ≡ same (bytes_from 0 (length w) s) w
unfolding same no_zero
spelled_by [] s e = refl
spelled_by (x ∷ w) [] e =
    sym (ap (λ (q : Bool). q && same (bytes_from 1 (length w) []) w) (eqb-sym 0 x ∙ not-true (eqb x 0) (first (not (eqb x 0)) (no_zero w) e)))
spelled_by (x ∷ w) (b ∷ t) e =
    ap₂ ◌&&◌ (eqb-sym x b)
    (spelled_by w t (second (not (eqb x 0)) (no_zero w) e) ∙ sym (ap (λ (l : List ℕ). same l w) (bytes-behind 0 (length w) b t)))

-- Symbols of n bytes, each with a kind.
unfoldable sound : ℕ → List Spelled → Bool
sound n [] = true
sound n (x ∷ xs) = eqb (length x.spelling) n && (no_zero x.spelling && (not (eqb x.kind 0) && sound n xs))

module _ (n : ℕ) (s : List ℕ) (ys : List Spelled) where
  abbrev kind_in : List Spelled → ℕ
  kind_in xs = symbol_kind xs (bytes_from 0 n s)

  -- Those before the others.
  among : (xs : List Spelled) → sound n xs ≡ true → symbol_among (xs ++ ys) s ≡ cond (eqb (kind_in xs) 0) (symbol_among ys s) (found (sign (kind_in xs)) n)
  unfolding sound symbol_kind symbol_among
  among [] e = refl
  among (x ∷ xs) e =
      let size : length x.spelling ≡ n = eqb-true _ _ (first (eqb (length x.spelling) n) _ e) in
      let e' = second (eqb (length x.spelling) n) _ e in
      let e'' = second (no_zero x.spelling) _ e' in
      let here : same x.spelling (take (length x.spelling) s) ≡ same (bytes_from 0 n s) x.spelling =
      spelled_by x.spelling s (first (no_zero x.spelling) _ e') ∙ ap (λ (m : ℕ). same (bytes_from 0 m s) x.spelling) size in
      ap (λ (q : Bool). cond q (found (sign x.kind) (length x.spelling)) (symbol_among (xs ++ ys) s)) here
      ∙ ap (λ (m : ℕ). cond (same (bytes_from 0 n s) x.spelling) (found (sign x.kind) m) (symbol_among (xs ++ ys) s)) size
      ∙ go (same (bytes_from 0 n s) x.spelling) (not-true (eqb x.kind 0) (first (not (eqb x.kind 0)) _ e'')) (among xs (second (not (eqb x.kind 0)) _ e''))
    where
      go : (q : Bool) → eqb x.kind 0 ≡ false → symbol_among (xs ++ ys) s ≡ cond (eqb (kind_in xs) 0) (symbol_among ys s) (found (sign (kind_in xs)) n)
          → cond q (found (sign x.kind) n) (symbol_among (xs ++ ys) s) ≡ cond (eqb (cond q x.kind (kind_in xs)) 0) (symbol_among ys s) (found (sign (cond q x.kind (kind_in xs))) n)
      go true k more = sym (rw k)
      go false k more = more

  module _ (xs : List Spelled) (e : sound n xs ≡ true) {k : ℕ} (ek : k ≡ kind_in xs) where
    symbol-here : (k ≡ 0 → ⊥) → found (sign k) n ≡ symbol_among (xs ++ ys) s
    symbol-here h = sym (among xs e ∙ rw (← ek, ne_eqb _ _ h))

    symbol-next : k ≡ 0 → symbol_among ys s ≡ symbol_among (xs ++ ys) s
    symbol-next h = sym (among xs e ∙ rw (← ek, h))

-- ---- The symbols by their sizes, the longest first.

abbrev shorter : List Spelled
shorter = of_two ++ (of_one ++ [])

by_size : spelled_symbols ≡ of_three ++ shorter
unfolding of_three of_two of_one spelled_symbols bytes
by_size = refl

three-sound : sound 3 of_three ≡ true
unfolding sound no_zero of_three spelled_symbols bytes
three-sound = refl

two-sound : sound 2 of_two ≡ true
unfolding sound no_zero of_two spelled_symbols bytes
two-sound = refl

one-sound : sound 1 of_one ≡ true
unfolding sound no_zero of_one spelled_symbols bytes
one-sound = refl

module _ (s : List ℕ) {a b c k : ℕ} (ea : a ≡ get_or s 0 0) (eb : b ≡ get_or s 1 0) (ec : c ≡ get_or s 2 0) (ek : k ≡ symbol_kind of_three (a ∷ b ∷ c ∷ [])) where
  kind : k ≡ symbol_kind of_three (bytes_from 0 3 s)
  kind = ek ∙ rw (ea, eb, ec)

  pub of_three_lem : (k ≡ 0 → ⊥) → found (sign k) 3 ≡ symbol_at s
  of_three_lem h = rw by_size (symbol-here 3 s shorter of_three three-sound kind h)

  pub none-of-three : k ≡ 0 → symbol_among shorter s ≡ symbol_at s
  none-of-three h = rw by_size (symbol-next 3 s shorter of_three three-sound kind h)

module _ (s : List ℕ) {a b k : ℕ} (ea : a ≡ get_or s 0 0) (eb : b ≡ get_or s 1 0) (ek : k ≡ symbol_kind of_two (a ∷ b ∷ [])) where
  kind' : k ≡ symbol_kind of_two (bytes_from 0 2 s)
  kind' = ek ∙ rw (ea, eb)

  pub of_two_lem : (k ≡ 0 → ⊥) → found (sign k) 2 ≡ symbol_among shorter s
  of_two_lem h = symbol-here 2 s (of_one ++ []) of_two two-sound kind' h

  pub none_of_two : k ≡ 0 → symbol_among (of_one ++ []) s ≡ symbol_among shorter s
  none_of_two h = symbol-next 2 s (of_one ++ []) of_two two-sound kind' h

module _ (s : List ℕ) {a k : ℕ} (ea : a ≡ get_or s 0 0) (ek : k ≡ symbol_kind of_one (a ∷ [])) where
  kind'' : k ≡ symbol_kind of_one (bytes_from 0 1 s)
  kind'' = ek ∙ rw ea

  pub of_one_lem : (k ≡ 0 → ⊥) → found (sign k) 1 ≡ symbol_among (of_one ++ []) s
  of_one_lem h = symbol-here 1 s [] of_one one-sound kind'' h

  pub none-of-one : k ≡ 0 → found (wrong BadCharacter) 1 ≡ symbol_among (of_one ++ []) s
  unfolding symbol_among
  none-of-one h = symbol-next 1 s [] of_one one-sound kind'' h
