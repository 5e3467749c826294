-- Words for an operator with its operands in parentheses: whatever the operator, they are a term. Assumes nothing.
use Rattle.std.specs.Prelude.{Bool, true, false, cond, ◌||◌, List, [], ◌∷◌, ◌++◌, ◌≡◌, refl, ℕ, suc, ◌≤◌, eqb}
use Rattle.std.proofs.Common.{arith, eqb-true}
use Rattle.language.specs.Grammar as G
use Rattle.language.specs.Grammar.{Is}
use Rattle.language.specs.Kinds.{close_paren, con_word, difference_sign, exclusive_sign, ext_word, head_word, minus, open_paren, plus, red_word, star, sum_sign, tail_word}
use Rattle.language.specs.Notions as N
use Rattle.language.specs.Notions.{Tree, expression}
use Rattle.language.specs.Operators.{binary_length, cut_length_of, is_arithmetic, is_cut, is_reduction, is_relation, prefix_length}
use Rattle.language.specs.Tree as T
use Rattle.language.specs.Tree.{Expression}
use Rattle.language.specs.Value.{cut_length, complement_length, count_length, difference_length, join_length, logical_length, negation_length, reduction_length, relation_length, repeat_length, sum_length}
use Rattle.language.specs.Words as W
use Rattle.language.specs.Words.{Constant, Position, Word, position, sign}

-- Where every word may be said to stand.
abbrev pub here : Position
here = position 0

-- ---- From a term up to an expression.

pub as-adjustment : {h : ℕ} {us : List Word} {t : Tree} → Is N.arithmetic h us t → Is N.adjustment h us t
as-adjustment x = G.cut-none (G.relation-none x)

pub of-complement : {h : ℕ} {us : List Word} {t : Tree} → Is N.complement h us t → Is N.boolean_exp h us t
of-complement x = G.or-one (G.exclusive-one (G.and_one x))

pub of-reduction : {h : ℕ} {us : List Word} {t : Tree} → Is N.reduction h us t → Is N.boolean_exp h us t
of-reduction x = of-complement (G.complement-none (G.con-one x))

pub of-adjustment : {h : ℕ} {us : List Word} {t : Tree} → Is N.adjustment h us t → Is N.boolean_exp h us t
of-adjustment x = of-reduction (G.reduction-none x)

pub of-arithmetic : {h : ℕ} {us : List Word} {t : Tree} → Is N.arithmetic h us t → Is N.boolean_exp h us t
of-arithmetic x = of-adjustment (as-adjustment x)

pub of-term : {h : ℕ} {us : List Word} {t : Tree} → Is N.term h us t → Is N.boolean_exp h us t
of-term x = of-arithmetic (G.arithmetic-one x)

-- ---- An operator, and its operands as terms.

binary-sign : {h : ℕ} {us vs : List Word} {e f : Expression} (k : ℕ) → Is N.term h us (expression e) → Is N.term h vs (expression f) → (m n : ℕ) → 1 ≤ binary_length k m n
    → Is N.boolean_exp h (us ++ sign k here ∷ vs) (expression (T.binary k here e f))
unfolding binary_length
binary-sign {h} {us} {vs} {e} {f} k x y m n l =
    by-sum (eqb k sum_sign) refl (eqb k difference_sign) refl (eqb k con_word) refl (eqb k plus) refl (eqb k star) refl (eqb k exclusive_sign) refl (is_relation k) refl l
  where
    Made : Type 0
    Made = Is N.boolean_exp h (us ++ sign k here ∷ vs) (expression (T.binary k here e f))

    arithmetic-so : is_arithmetic k ≡ true → Made
    arithmetic-so q = of-arithmetic (G.arithmetic-more q (G.arithmetic-one x) y)

    by-sum : (a : Bool) → eqb k sum_sign ≡ a → (b : Bool) → eqb k difference_sign ≡ b → (c : Bool) → eqb k con_word ≡ c → (p : Bool) → eqb k plus ≡ p → (s : Bool) → eqb k star ≡ s → (z : Bool) → eqb k exclusive_sign ≡ z
        → (r : Bool) → is_relation k ≡ r
        → 1 ≤ cond a (sum_length m n) (cond b (difference_length m n) (cond c (join_length m n) (cond (p || s || z) (logical_length m n) (cond r relation_length 0)))) → Made
    by-sum true qa b qb c qc p qp s qs z qz r qr k' = arithmetic-so (rw qa refl)
    by-sum false qa true qb c qc p qp s qs z qz r qr k' = arithmetic-so (rw (qa, qb) refl)
    by-sum false qa false qb true qc p qp s qs z qz r qr k' =
        let q : k ≡ con_word = eqb-true k con_word qc in
        rw q (of-complement (G.complement-none (G.con-more (G.con-one (G.reduction-none (as-adjustment (G.arithmetic-one x)))) (G.reduction-none (as-adjustment (G.arithmetic-one y))))))
    by-sum false qa false qb false qc true qp s qs z qz r qr k' =
        let q : k ≡ plus = eqb-true k plus qp in
        rw q (G.or-more (of-term x) (G.exclusive-one (G.and_one (G.complement-none (G.con-one (G.reduction-none (as-adjustment (G.arithmetic-one y))))))))
    by-sum false qa false qb false qc false qp true qs z qz r qr k' =
        let q : k ≡ star = eqb-true k star qs in
        rw q (G.or-one (G.exclusive-one (G.and-more (G.and_one (G.complement-none (G.con-one (G.reduction-none (as-adjustment (G.arithmetic-one x)))))) (G.complement-none (G.con-one (G.reduction-none (as-adjustment (G.arithmetic-one y))))))))
    by-sum false qa false qb false qc false qp false qs true qz r qr k' =
        let q : k ≡ exclusive_sign = eqb-true k exclusive_sign qz in
        rw q (G.or-one (G.exclusive-more (G.exclusive-one (G.and_one (G.complement-none (G.con-one (G.reduction-none (as-adjustment (G.arithmetic-one x))))))) (G.and_one (G.complement-none (G.con-one (G.reduction-none (as-adjustment (G.arithmetic-one y))))))))
    by-sum false qa false qb false qc false qp false qs false qz true qr k' =
        of-adjustment (G.cut-none (G.relation-of qr (G.arithmetic-one x) (G.arithmetic-one y)))
    by-sum false qa false qb false qc false qp false qs false qz false qr k' = absurd (omega arith)

-- The words of an operator with two operands.
abbrev pub binary_words : ℕ → List Word → List Word → List Word
binary_words k us vs = sign open_paren here ∷ ((us ++ sign k here ∷ vs) ++ sign close_paren here ∷ [])

pub binary-term : {h : ℕ} {us vs : List Word} {e f : Expression} (k : ℕ) → Is N.term h us (expression e) → Is N.term h vs (expression f) → (m n : ℕ) → 1 ≤ binary_length k m n
    → Is N.term (suc h) (binary_words k us vs) (expression (T.binary k here e f))
binary-term k x y m n l = G.term-parens here (binary-sign k x y m n l)

-- ---- An operator before its operand: a reduction has RED behind its sign.

abbrev pub prefix_begins : ℕ → List Word → List Word
prefix_begins k us = cond (eqb k minus || eqb k difference_sign) (sign k here ∷ us) (sign k here ∷ sign red_word here ∷ us)

prefix-sign : {h : ℕ} {us : List Word} {e : Expression} (k : ℕ) → Is N.term h us (expression e) → (m : ℕ) → 1 ≤ prefix_length k m → Is N.boolean_exp (suc h) (prefix_begins k us) (expression (T.prefix k here e))
unfolding prefix_length
prefix-sign {h} {us} {e} k x m l = by_sign (eqb k minus) refl (eqb k difference_sign) refl (eqb k sum_sign) refl (eqb k plus) refl (eqb k star) refl (eqb k exclusive_sign) refl l
  where
    Made : Bool → Type 0
    Made b = Is N.boolean_exp (suc h) (cond b (sign k here ∷ us) (sign k here ∷ sign red_word here ∷ us)) (expression (T.prefix k here e))

    reduced : is_reduction k ≡ true → Is N.boolean_exp (suc h) (sign k here ∷ sign red_word here ∷ us) (expression (T.prefix k here e))
    reduced q = of-reduction (G.reduction-of q (as-adjustment (G.arithmetic-one x)))

    by_sign : (a : Bool) → eqb k minus ≡ a → (b : Bool) → eqb k difference_sign ≡ b → (c : Bool) → eqb k sum_sign ≡ c → (p : Bool) → eqb k plus ≡ p → (s : Bool) → eqb k star ≡ s → (z : Bool) → eqb k exclusive_sign ≡ z
        → 1 ≤ cond a (complement_length m) (cond b (negation_length m) (cond c count_length (cond (p || s || z) reduction_length 0))) → Made (a || b)
    by_sign true qa b qb c qc p qp s qs z qz k' =
        let q : k ≡ minus = eqb-true k minus qa in
        rw q (of-complement (G.complement-of (G.con-one (G.reduction-none (as-adjustment (G.arithmetic-one x))))))
    by_sign false qa true qb c qc p qp s qs z qz k' = let q : k ≡ difference_sign = eqb-true k difference_sign qb in rw q (of-arithmetic (G.negation-of x))
    by_sign false qa false qb true qc p qp s qs z qz k' = let q : k ≡ sum_sign = eqb-true k sum_sign qc in reduced (rw q refl)
    by_sign false qa false qb false qc true qp s qs z qz k' = reduced (rw qp refl)
    by_sign false qa false qb false qc false qp true qs z qz k' = reduced (rw (qp, qs) refl)
    by_sign false qa false qb false qc false qp false qs true qz k' = reduced (rw (qp, qs, qz) refl)
    by_sign false qa false qb false qc false qp false qs false qz k' = absurd (omega arith)

abbrev pub prefix_words : ℕ → List Word → List Word
prefix_words k us = sign open_paren here ∷ (prefix_begins k us ++ sign close_paren here ∷ [])

pub prefix-term : {h : ℕ} {us : List Word} {e : Expression} (k : ℕ) → Is N.term h us (expression e) → (m : ℕ) → 1 ≤ prefix_length k m → Is N.term (suc (suc h)) (prefix_words k us) (expression (T.prefix k here e))
prefix-term k x m l = G.term-parens here (prefix-sign k x m l)

-- ---- HEAD, TAIL and EXT.

cut-sign : (k m c : ℕ) → 1 ≤ cut_length_of k m c → is_cut k ≡ true
unfolding cut_length_of
cut-sign k m c l = go (eqb k head_word) (eqb k tail_word) (eqb k ext_word) l
  where
    go : (a b e : Bool) → 1 ≤ cond (a || b) (cut_length m c) (cond e (repeat_length m c) 0) → (a || b || e) ≡ true
    go true b e q = refl
    go false true e q = refl
    go false false true q = refl
    go false false false q = absurd (omega arith)

abbrev pub cut_words : ℕ → List Word → Constant → List Word
cut_words k us c = sign open_paren here ∷ ((us ++ sign k here ∷ W.constant c here ∷ []) ++ sign close_paren here ∷ [])

pub cut-term : {h : ℕ} {us : List Word} {e : Expression} (k : ℕ) (c : Constant) → Is N.term h us (expression e) → (m n : ℕ) → 1 ≤ cut_length_of k m n → Is N.term (suc h) (cut_words k us c) (expression (T.cut k here e c))
cut-term k c x m n l = G.term-parens here (of-adjustment (G.cut-more here (cut-sign k m n l) (as-adjustment (G.arithmetic-one x))))
