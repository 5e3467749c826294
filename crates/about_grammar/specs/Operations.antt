-- The machine takes the words of each operator of expressions.
use Rattle.std.specs.Prelude.{Bool, true, false, cond, ◌||◌, ◌≡◌, ℕ, suc, eqb}
use mathlib.Core.List.{List, [], ◌∷◌, ◌++◌}
use Rattle.std.proofs.Common.{◌∙◌, ap, sym, subst, arith, eq-eqb, eqb-true}
use Rattle.std.proofs.Math.Path.{refl}
use Rattle.language.specs.Alternatives.{plain_word}
use Rattle.language.specs.Building.{Built, expression_no, keep_word, make_binary, make_cut, word_no}
use Rattle.language.specs.CountedWords.{counted_expression}
use Rattle.language.specs.Declaring.{tree_steps}
use Rattle.language.specs.Kinds.{a_constant, at_least_sign, at_most_sign, colon, con_word, difference_sign, exclusive_sign, ext_word, greater_sign, hash, head_word, less_sign, minus, plus, red_word, same_sign, star, sum_sign, tail_word}
use Rattle.language.specs.Machine.{Counts, adjustment, after, arithmetic, ask, choose, counted, cut_tail, feed, keep, make, more, reading, relation_tail, run, stuck, taken, tallied}
use Rattle.language.specs.Notions.{expression}
use Rattle.language.specs.SectionWays.{rule_of}
use Rattle.language.specs.Tree.{Expression, binary, cut, prefix}
use Rattle.language.specs.Words as W
use Rattle.language.specs.Words.{Constant, Position, Word, sign}
use Rattle.about_grammar.specs.Courses.{Ceiling, Comes, Stack, Under, ◌⊳◌, before, comes, runs, then-move, took_it}
use Rattle.about_grammar.specs.Following.{after_relation, after_sum, among}
use Rattle.about_grammar.specs.Levels.{Adjustment, Arithmetic, Boolean, Chain, Complement, Minterm, Product, Reduction, Relation, Term, whole-adjustment, whole-arithmetic, whole-chain, whole-minterm, whole-product}
use Rattle.about_grammar.specs.Operators.{apart-on, asking-more, building, heads-on, left-binary, prefixed}
use Rattle.about_grammar.specs.Taking.{Phrase, Takes, arriving, not_adjustment, not_boolean, not_chain, push}
use Rattle.language.specs.Operators.{is_arithmetic, is_cut, is_reduction, is_relation, relations}

module _ {C : Ceiling} {h : ℕ} {us vs : List Word} {p : Position} {e f : Expression} where
  pub or-more : Boolean C h us (expression e) → Minterm C h vs (expression f) → Boolean C h (us ++ sign plus p ∷ vs) (expression (binary plus p e f))
  unfolding run feed choose rule_of tallied among
  or-more x y = left-binary plus (λ K b c u. comes (λ ws end _. took_it C _ _ _ _ u _)) refl refl x (whole-minterm y)

  pub exclusive-more : Minterm C h us (expression e) → Product C h vs (expression f) → Minterm C h (us ++ sign exclusive_sign p ∷ vs) (expression (binary exclusive_sign p e f))
  unfolding run feed choose rule_of tallied among
  exclusive-more x y = left-binary exclusive_sign (λ K b c u. comes (λ ws end _. took_it C _ _ _ _ u _)) refl refl x (whole-product y)

  pub and-more : Product C h us (expression e) → Complement C h vs (expression f) → Product C h (us ++ sign star p ∷ vs) (expression (binary star p e f))
  unfolding run feed choose rule_of tallied among
  and-more x y = left-binary star (λ K b c u. comes (λ ws end _. took_it C _ _ _ _ u _)) refl refl x y

  pub con-more : Chain C h us (expression e) → Reduction C h vs (expression f) → Chain C h (us ++ sign con_word p ∷ vs) (expression (binary con_word p e f))
  unfolding run feed choose rule_of tallied among
  con-more x y = left-binary con_word (λ K b c u. comes (λ ws end _. took_it C _ _ _ _ u _)) refl refl x y

-- One of several kinds.
one_of : (P : ℕ → Type 0) (k a : ℕ) (b : Bool) → (b ≡ true → P k) → P a → (b || eqb k a) ≡ true → P k
one_of P k a true f x h = f refl
one_of P k a false f x h = subst P (sym (eqb-true k a h)) x

the_one : (P : ℕ → Type 0) (k a : ℕ) → P a → eqb k a ≡ true → P k
the_one P k a x h = subst P (sym (eqb-true k a h)) x

pub arithmetic-kinds : (P : ℕ → Type 0) → P sum_sign → P difference_sign → (k : ℕ) → is_arithmetic k ≡ true → P k
arithmetic-kinds P x y k h = one_of P k difference_sign (eqb k sum_sign) (the_one P k sum_sign x) y h

pub cut-kinds : (P : ℕ → Type 0) → P head_word → P tail_word → P ext_word → (k : ℕ) → is_cut k ≡ true → P k
cut-kinds P x y z k h = one_of P k ext_word (eqb k head_word || eqb k tail_word) (one_of P k tail_word (eqb k head_word) (the_one P k head_word x) y) z h

pub reduction-kinds : (P : ℕ → Type 0) → P plus → P star → P exclusive_sign → P sum_sign → (k : ℕ) → is_reduction k ≡ true → P k
reduction-kinds P x y z v k h =
    one_of P k sum_sign (eqb k plus || eqb k star || eqb k exclusive_sign)
    (one_of P k exclusive_sign (eqb k plus || eqb k star) (one_of P k star (eqb k plus) (the_one P k plus x) y) z) v h

pub relation-kinds : (P : ℕ → Type 0) → P same_sign → P hash → P less_sign → P greater_sign → P at_most_sign → P at_least_sign → (k : ℕ) → is_relation k ≡ true → P k
relation-kinds P x y z v u w k h =
    one_of P k at_least_sign (eqb k same_sign || eqb k hash || eqb k less_sign || eqb k greater_sign || eqb k at_most_sign)
    (one_of P k at_most_sign (eqb k same_sign || eqb k hash || eqb k less_sign || eqb k greater_sign)
    (one_of P k greater_sign (eqb k same_sign || eqb k hash || eqb k less_sign)
    (one_of P k less_sign (eqb k same_sign || eqb k hash) (one_of P k hash (eqb k same_sign) (the_one P k same_sign x) y) z) v) u) w h

-- A word taken by the machine's own computation.
module _ {C : Ceiling} {h : ℕ} {us vs : List Word} {p : Position} {e f : Expression} where
  pub arithmetic-more : (k : ℕ) → is_arithmetic k ≡ true → Arithmetic C h us (expression e) → Term C h vs (expression f)
      → Arithmetic C h (us ++ sign k p ∷ vs) (expression (binary k p e f))
  unfolding run feed choose rule_of tallied among
  arithmetic-more k a x y =
      arithmetic-kinds (λ k. Arithmetic C h (us ++ sign k p ∷ vs) (expression (binary k p e f)))
      (left-binary sum_sign (λ K b c u. comes (λ ws end _. took_it C _ _ _ _ u _)) refl refl x y)
      (left-binary difference_sign (λ K b c u. comes (λ ws end _. took_it C _ _ _ _ u _)) refl refl x y) k a

  relation-by : (k : ℕ) → among k after_sum ≡ false → among k (colon ∷ []) ≡ false
      → ((K : Stack) (b : Built) (c : Counts) → Under C.top (more counted c)
      → Comes C [] (ask relation_tail ∷ K) (reading b c) (sign k p ∷ []) (ask arithmetic ∷ make make_binary ∷ K) (reading (keep_word (sign k p) b) (more counted c)))
      → Arithmetic C h us (expression e) → Arithmetic C h vs (expression f)
      → Phrase C not_adjustment (ask arithmetic ∷ ask relation_tail ∷ []) [] after_sum h (us ++ sign k p ∷ vs) (expression (binary k p e f))
  unfolding counted_expression expression_no word_no
  relation-by k ok off eat x y =
      record { heads = heads-on not_adjustment us (sign k p ∷ vs) x.heads; apart = apart-on us (sign k p) vs off x.apart; takes = go }
    where
      go : Takes C (ask arithmetic ∷ ask relation_tail ∷ []) [] after_sum h (us ++ sign k p ∷ vs) (expression (binary k p e f))
      go K b c room =
          arriving ((whole-arithmetic x).takes (ask relation_tail ∷ K) b c (omega arith)) λ d g m.
          arriving ((whole-arithmetic y).takes (make make_binary ∷ K) (keep_word (sign k p) (push e b)) (more counted d) (omega arith)) λ d₁ i l.
          record {
            counts = d₁;
            grown = omega arith;
            comes = before m (λ ws _. ok) (eat K (push e b) d (omega arith) ⊳ then-move l (building (λ _. refl)));
          }

  pub relation-of : (k : ℕ) → is_relation k ≡ true → Arithmetic C h us (expression e) → Arithmetic C h vs (expression f)
      → Relation C h (us ++ sign k p ∷ vs) (expression (binary k p e f))
  unfolding run feed choose rule_of tallied among
  relation-of k a x y =
      asking-more relations
      (relation-kinds (λ k. Phrase C not_adjustment (ask arithmetic ∷ ask relation_tail ∷ []) [] after_sum h (us ++ sign k p ∷ vs) (expression (binary k p e f)))
      (relation-by same_sign refl refl (λ K b c u. comes (λ ws end _. took_it C _ _ _ _ u _)) x y)
      (relation-by hash refl refl (λ K b c u. comes (λ ws end _. took_it C _ _ _ _ u _)) x y)
      (relation-by less_sign refl refl (λ K b c u. comes (λ ws end _. took_it C _ _ _ _ u _)) x y)
      (relation-by greater_sign refl refl (λ K b c u. comes (λ ws end _. took_it C _ _ _ _ u _)) x y)
      (relation-by at_most_sign refl refl (λ K b c u. comes (λ ws end _. took_it C _ _ _ _ u _)) x y)
      (relation-by at_least_sign refl refl (λ K b c u. comes (λ ws end _. took_it C _ _ _ _ u _)) x y) k a)

module _ {C : Ceiling} {h : ℕ} {us : List Word} {p : Position} {e : Expression} where
  cut_by : (k : ℕ) (q : Position) {n : Constant} → among k after_relation ≡ false → among k (colon ∷ []) ≡ false
      → ((K : Stack) (b : Built) (c : Counts) → Under C.top (more counted c)
      → Comes C [] (ask cut_tail ∷ K) (reading b c) (sign k p ∷ []) (keep a_constant ∷ make make_cut ∷ ask cut_tail ∷ K) (reading (keep_word (sign k p) b) (more counted c)))
      → Adjustment C h us (expression e) → Adjustment C h (us ++ sign k p ∷ W.constant n q ∷ []) (expression (cut k p e n))
  unfolding counted_expression expression_no word_no run feed
  cut_by k q {n} ok off eat x =
      record { heads = heads-on not_adjustment us (sign k p ∷ W.constant n q ∷ []) x.heads; apart = apart-on us (sign k p) (W.constant n q ∷ []) off x.apart; takes = go }
    where
      go : Takes C (ask adjustment ∷ []) (ask cut_tail ∷ []) after_relation h (us ++ sign k p ∷ W.constant n q ∷ []) (expression (cut k p e n))
      go K b c room =
          arriving (x.takes K b c (omega arith)) λ d g m.
          record {
            counts = more counted d;
            grown = omega arith;
            comes = before m (λ ws _. ok) (eat K (push e b) d (omega arith) ⊳ then-move (kept K (push e b) (more counted d)) (building (λ _. refl)));
          }
        where
          kept : (K : Stack) (b : Built) (c : Counts)
              → Comes C after_relation (keep a_constant ∷ make make_cut ∷ ask cut_tail ∷ K) (reading (keep_word (sign k p) b) c) (W.constant n q ∷ []) (make make_cut ∷ ask cut_tail ∷ K) (reading (keep_word (W.constant n q) (keep_word (sign k p) b)) c)
          kept K b c = comes (λ ws end _. refl)

  pub cut-more : (k : ℕ) (q : Position) {n : Constant} → is_cut k ≡ true → Adjustment C h us (expression e) → Adjustment C h (us ++ sign k p ∷ W.constant n q ∷ []) (expression (cut k p e n))
  unfolding run feed choose rule_of tallied among
  cut-more k q {n} a x =
      cut-kinds (λ k. Adjustment C h (us ++ sign k p ∷ W.constant n q ∷ []) (expression (cut k p e n)))
      (cut_by head_word q refl refl (λ K b c u. comes (λ ws end _. took_it C _ _ _ _ u _)) x)
      (cut_by tail_word q refl refl (λ K b c u. comes (λ ws end _. took_it C _ _ _ _ u _)) x)
      (cut_by ext_word q refl refl (λ K b c u. comes (λ ws end _. took_it C _ _ _ _ u _)) x) k a

  pub complement-of : Chain C h us (expression e) → Complement C (suc h) (sign minus p ∷ us) (expression (prefix minus p e))
  unfolding run feed choose rule_of tallied among
  complement-of x = prefixed not_boolean minus p [] refl refl (λ K b c u. comes (λ ws end _. took_it C _ _ _ _ u _)) (whole-chain x)

  pub negation-of : Term C h us (expression e) → Arithmetic C (suc h) (sign difference_sign p ∷ us) (expression (prefix difference_sign p e))
  unfolding run feed choose rule_of tallied among
  negation-of x = prefixed not_adjustment difference_sign p [] refl refl (λ K b c u. comes (λ ws end _. took_it C _ _ _ _ u _)) x

-- A word that only leads on.
pub plain_word_lem : {C : Ceiling} {k : ℕ} {p : Position} {K : Stack} {b : Built} {c : Counts} → Under C.top c → Comes C [] (plain_word k ∷ K) (reading b c) (sign k p ∷ []) K (reading b c)
unfolding run feed
plain_word_lem {C} {k} {p} {K} {b} {c} u = comes (λ ws end _. ap (λ (z : Bool). after tree_steps C.fits (rule_of tree_steps) (cond z (taken tree_steps C.fits p K b c) (stuck tree_steps C.fits (sign k p))) (λ L q. runs C L ws end q)) (eq-eqb k k refl) ∙ took_it C _ _ _ _ u _)

module _ {C : Ceiling} {h : ℕ} {us : List Word} {p q : Position} {e : Expression} where
  pub reduction-of : (k : ℕ) → is_reduction k ≡ true → Adjustment C h us (expression e) → Reduction C (suc h) (sign k p ∷ sign red_word q ∷ us) (expression (prefix k p e))
  unfolding run feed choose rule_of tallied among
  reduction-of k a x =
      reduction-kinds (λ k. Reduction C (suc h) (sign k p ∷ sign red_word q ∷ us) (expression (prefix k p e)))
      (prefixed not_chain plus p (sign red_word q ∷ []) refl refl (λ K b c u. comes (λ ws end _. took_it C _ _ _ _ u _) ⊳ plain_word_lem u) (whole-adjustment x))
      (prefixed not_chain star p (sign red_word q ∷ []) refl refl (λ K b c u. comes (λ ws end _. took_it C _ _ _ _ u _) ⊳ plain_word_lem u) (whole-adjustment x))
      (prefixed not_chain exclusive_sign p (sign red_word q ∷ []) refl refl (λ K b c u. comes (λ ws end _. took_it C _ _ _ _ u _) ⊳ plain_word_lem u) (whole-adjustment x))
      (prefixed not_chain sum_sign p (sign red_word q ∷ []) refl refl (λ K b c u. comes (λ ws end _. took_it C _ _ _ _ u _) ⊳ plain_word_lem u) (whole-adjustment x)) k a
