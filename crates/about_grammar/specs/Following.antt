-- What may stand behind a notion: the first word that follows is of none of these kinds.
use Rattle.std.specs.Prelude.{Bool, true, false, cond, List, [], ◌∷◌, ◌++◌, ◌≡◌, refl, ℕ, eqb}
use Rattle.std.proofs.Common.{◌∙◌, ap, sym, subst, eqb-true}
use Rattle.language.specs.Kinds.{con_word, exclusive_sign, open_bracket, plus, star}
use Rattle.language.specs.Operators.{cuts, relations, sums}
use Rattle.language.specs.Words.{Word, kind_of}

unfoldable pub among : ℕ → List ℕ → Bool
among k [] = false
among k (x ∷ xs) = cond (eqb k x) true (among k xs)

abbrev pub Follows : List ℕ → List Word → Type 0
Follows ks [] = Unit {0}
Follows ks (w ∷ vs) = among (kind_of w) ks ≡ false

-- The words that would go on with a notion of each level; each list holds those before it.
abbrev pub after_term : List ℕ
after_term = open_bracket ∷ []

abbrev pub after_sum : List ℕ
after_sum = sums ++ after_term

abbrev pub after_relation : List ℕ
after_relation = relations ++ after_sum

abbrev pub after_cut : List ℕ
after_cut = cuts ++ after_relation

abbrev pub after_con : List ℕ
after_con = con_word ∷ after_cut

abbrev pub after_and : List ℕ
after_and = star ∷ after_con

abbrev pub after_exclusive : List ℕ
after_exclusive = exclusive_sign ∷ after_and

abbrev pub after_or : List ℕ
after_or = plus ∷ after_exclusive

-- Nothing is asked of what follows.
pub none-following : (vs : List Word) → Follows [] vs
unfolding among
none-following [] = tt
none-following (w ∷ vs) = refl

pub among_first : (k x : ℕ) (xs : List ℕ) → among k (x ∷ xs) ≡ false → eqb k x ≡ false
unfolding among
among_first k x xs h = go (eqb k x) h
  where
    go : (b : Bool) → cond b true (among k xs) ≡ false → b ≡ false
    go true e = e
    go false e = refl

pub among-rest : (k x : ℕ) (xs : List ℕ) → among k (x ∷ xs) ≡ false → among k xs ≡ false
unfolding among
among-rest k x xs h = go (eqb k x) h
  where
    off : true ≡ false → among k xs ≡ false
    off e = subst (λ (b : Bool). cond b (among k xs) false ≡ false) (sym e) refl ∙ absurd-path e
      where
        absurd-path : true ≡ false → false ≡ false
        absurd-path _ = refl

    go : (b : Bool) → cond b true (among k xs) ≡ false → among k xs ≡ false
    go true e = off e
    go false e = e

-- Of two lists joined, both.
pub among-left : (k : ℕ) (xs ys : List ℕ) → among k (xs ++ ys) ≡ false → among k xs ≡ false
unfolding among
among-left k [] ys h = refl
among-left k (x ∷ xs) ys h = rw (among_first k x (xs ++ ys) h) (among-left k xs ys (among-rest k x (xs ++ ys) h))

pub among-right : (k : ℕ) (xs ys : List ℕ) → among k (xs ++ ys) ≡ false → among k ys ≡ false
among-right k [] ys h = h
among-right k (x ∷ xs) ys h = among-right k xs ys (among-rest k x (xs ++ ys) h)

-- What follows none of more words follows none of fewer.
pub follows-right : (xs ys : List ℕ) (vs : List Word) → Follows (xs ++ ys) vs → Follows ys vs
follows-right xs ys [] h = tt
follows-right xs ys (w ∷ vs) h = among-right (kind_of w) xs ys h

pub follows-left : (xs ys : List ℕ) (vs : List Word) → Follows (xs ++ ys) vs → Follows xs vs
follows-left xs ys [] h = tt
follows-left xs ys (w ∷ vs) h = among-left (kind_of w) xs ys h

-- All of the first list stand in the second.
unfoldable pub within : List ℕ → List ℕ → Bool
within [] ys = true
within (x ∷ xs) ys = cond (among x ys) (within xs ys) false

among-other : (k x : ℕ) (ys : List ℕ) → among k ys ≡ false → among x ys ≡ true → eqb k x ≡ false
among-other k x ys f t = go (eqb k x) refl
  where
    go : (b : Bool) → eqb k x ≡ b → b ≡ false
    go true e = sym t ∙ ap (λ (z : ℕ). among z ys) (sym (eqb-true k x e)) ∙ f
    go false e = refl

pub among-within : (k : ℕ) (xs ys : List ℕ) → within xs ys ≡ true → among k ys ≡ false → among k xs ≡ false
unfolding among within
among-within k [] ys w f = refl
among-within k (x ∷ xs) ys w f = go (among x ys) refl w (among-within k xs ys)
  where
    go : (b : Bool) → among x ys ≡ b → cond b (within xs ys) false ≡ true → (within xs ys ≡ true → among k ys ≡ false → among k xs ≡ false) → cond (eqb k x) true (among k xs) ≡ false
    go true e v rec = rw (among-other k x ys f e) (rec v f)
    go false e v rec = absurd (subst (λ (b : Bool). cond b ⊥ (Unit {0})) v tt)

pub follows-within : (xs ys : List ℕ) → within xs ys ≡ true → (vs : List Word) → Follows ys vs → Follows xs vs
follows-within xs ys w [] f = tt
follows-within xs ys w (v ∷ vs) f = among-within (kind_of v) xs ys w f
