-- The machine takes the words of the left sides of stores and of the actions that are no conditional.
use Rattle.std.specs.Prelude.{Bool, true, false, ◌||◌, ◌≡◌, refl, ℕ, suc, eqb}
use mathlib.Core.List.{List, [], ◌∷◌, ◌++◌, append_assoc}
use Rattle.std.proofs.Common.{◌∙◌, sym, subst, arith, eqb-true}
use Rattle.language.specs.Building.{Built, expression_no, keep_word, make_pair, make_set, make_store, with_lefts}
use Rattle.language.specs.CountedWords.{counted_left}
use Rattle.language.specs.Kinds.{a_name, at_sign, colon, con_word, delayed_sign, equal_sign, open_bracket, open_paren}
use Rattle.language.specs.Machine as M
use Rattle.language.specs.Machine.{Ask, Counts, Reading, ask, choose, counted, feed, keep, left_rest, make, more, operation_name, reading, run, set_sign, store_sign, subscripts, tallied}
use Rattle.language.specs.Notions.{Section, expression, in_operation, in_state, is_store}
use Rattle.language.specs.SectionWays.{rule_of}
use Rattle.language.specs.Tree as T
use Rattle.language.specs.Tree.{Expression, Left, Name}
use Rattle.language.specs.Words as W
use Rattle.language.specs.Words.{Position, Word, sign}
use Rattle.about_grammar.specs.Acting.{action_of, name_of}
use Rattle.about_grammar.specs.Courses.{Ceiling, Comes, Room, Stack, Under, before, comes, respelt, runs, then-move, then-words, took_it}
use Rattle.about_grammar.specs.Following.{Follows, among}
use Rattle.about_grammar.specs.Operators.{building}
use Rattle.about_grammar.specs.Taking.{Arrives, Opens, Referring, Subscripted, arriving, push}

-- What a reference that is set, or stored to, leads to.
abbrev pub set_of : Section → Ask
set_of in_operation = left_rest
set_of in_state = set_sign

pub store-kinds : (P : ℕ → Type 0) → P delayed_sign → P equal_sign → (k : ℕ) → is_store k ≡ true → P k
store-kinds P x y k h = go (eqb k delayed_sign) refl h
  where
    go : (b : Bool) → eqb k delayed_sign ≡ b → (b || eqb k equal_sign) ≡ true → P k
    go true e _ = subst P (sym (eqb-true k delayed_sign e)) x
    go false e g = subst P (sym (eqb-true k equal_sign g)) y

-- ---- The words.

module _ {C : Ceiling} {K : Stack} {b : Built} {c : Counts} {p : Position} where
  pub name-word : (s : Section) {n : Name} → Under C.top c → Comes C [] (ask (action_of s) ∷ K) (reading b c) (W.name n p ∷ []) (ask (name_of s) ∷ K) (reading (keep_word (W.name n p) b) c)
  unfolding run feed choose rule_of tallied
  name-word in_operation u = comes (λ ws end _. took_it C _ _ _ _ u _)
  name-word in_state u = comes (λ ws end _. took_it C _ _ _ _ u _)

  pub set_word : (s : Section) → Under C.top (more counted c) → Comes C [] (ask (set_of s) ∷ K) (reading b c) (sign at_sign p ∷ []) (make make_set ∷ K) (reading (keep_word (sign at_sign p) b) (more counted c))
  unfolding run feed choose rule_of tallied
  set_word in_operation u = comes (λ ws end _. took_it C _ _ _ _ u _)
  set_word in_state u = comes (λ ws end _. took_it C _ _ _ _ u _)

  -- A store's sign behind one reference, and behind two.
  store_word : (k : ℕ) {e : Expression} → is_store k ≡ true → Under C.top (more counted c)
      → Comes C [] (ask left_rest ∷ K) (reading (push e b) c) (sign k p ∷ []) (ask M.expression ∷ make make_store ∷ K) (reading (keep_word (sign k p) (with_lefts b (T.single e ∷ b.lefts))) (more counted c))
  unfolding run feed choose rule_of tallied expression_no
  store_word k {e} i u =
      store-kinds (λ k. Comes C [] (ask left_rest ∷ K) (reading (push e b) c) (sign k p ∷ []) (ask M.expression ∷ make make_store ∷ K) (reading (keep_word (sign k p) (with_lefts b (T.single e ∷ b.lefts))) (more counted c)))
      (comes (λ ws end _. took_it C _ _ _ _ u _)) (comes (λ ws end _. took_it C _ _ _ _ u _)) k i

  pair-store-word : (k : ℕ) → is_store k ≡ true → Under C.top (more counted c)
      → Comes C [] (ask store_sign ∷ K) (reading b c) (sign k p ∷ []) (ask M.expression ∷ make make_store ∷ K) (reading (keep_word (sign k p) b) (more counted c))
  unfolding run feed choose rule_of tallied
  pair-store-word k i u =
      store-kinds (λ k. Comes C [] (ask store_sign ∷ K) (reading b c) (sign k p ∷ []) (ask M.expression ∷ make make_store ∷ K) (reading (keep_word (sign k p) b) (more counted c)))
      (comes (λ ws end _. took_it C _ _ _ _ u _)) (comes (λ ws end _. took_it C _ _ _ _ u _)) k i

  con-word : {n : Name} {q : Position} → Under C.top c
      → Comes C [] (ask left_rest ∷ K) (reading b c) (sign con_word p ∷ W.name n q ∷ []) (ask subscripts ∷ make make_pair ∷ ask store_sign ∷ K) (reading (keep_word (W.name n q) b) c)
  unfolding run feed choose rule_of tallied
  con-word {n} {q} u = comes (λ ws end _. took_it C p (keep a_name ∷ ask subscripts ∷ make make_pair ∷ ask store_sign ∷ K) b c u (λ L r. runs C L (W.name n q ∷ ws) end r))

-- Behind an action's name: where a bracket follows, or a sign that makes it a left side, it is a reference.
module _ {C : Ceiling} (a next : Ask) (k : ℕ) (q : Position)
    (bracket : (K : Stack) (r : Reading Built) (o : Position) (vs : List Word) (end : ℕ) → runs C (ask a ∷ K) (sign open_bracket o ∷ vs) end r ≡ runs C (ask subscripts ∷ ask next ∷ K) (sign open_bracket o ∷ vs) end r)
    (mark : (K : Stack) (r : Reading Built) (vs : List Word) (end : ℕ) → runs C (ask a ∷ K) (sign k q ∷ vs) end r ≡ runs C (ask subscripts ∷ ask next ∷ K) (sign k q ∷ vs) end r) where
  pub referred : (us : List Word) → Opens us → (ws : List Word) {ks : List ℕ} {K : Stack} {r : Reading Built} {L : Stack} {s : Reading Built}
      → Comes C ks (ask subscripts ∷ ask next ∷ K) r (us ++ sign k q ∷ ws) L s → Comes C ks (ask a ∷ K) r (us ++ sign k q ∷ ws) L s
  referred [] o ws {K = K} {r} x = comes (λ vs end f. mark K r (ws ++ vs) end ∙ x.course vs end f)
  referred (W.name n p ∷ us) o ws x = absurd o
  referred (W.constant n p ∷ us) o ws x = absurd o
  referred (W.sign j p ∷ us) o ws {K = K} {r} x =
      comes (λ vs end f. subst (λ i. runs C (ask a ∷ K) (sign i p ∷ ((us ++ sign k q ∷ ws) ++ vs)) end r ≡ runs C (ask subscripts ∷ ask next ∷ K) (sign i p ∷ ((us ++ sign k q ∷ ws) ++ vs)) end r) (sym o) (bracket K r p ((us ++ sign k q ∷ ws) ++ vs) end) ∙ x.course vs end f)

-- What stands behind a reference's name is no label's.
pub opens-on : (us : List Word) → Opens us → (vs : List Word) → Follows (colon ∷ open_paren ∷ []) vs → Follows (colon ∷ open_paren ∷ []) (us ++ vs)
unfolding among
opens-on [] o vs f = f
opens-on (W.name n p ∷ us) o vs f = absurd o
opens-on (W.constant n p ∷ us) o vs f = absurd o
opens-on (W.sign k p ∷ us) o vs f = subst (λ i. among i (colon ∷ open_paren ∷ []) ≡ false) (sym o) refl

-- ---- Left sides, up to and with the store's sign.

pub record Sided (C : Ceiling) (n : Name) (p : Position) (h : ℕ) (us : List Word) (l : Left) : Type 0 where
  pub follows : (vs : List Word) → Follows (colon ∷ open_paren ∷ []) vs → Follows (colon ∷ open_paren ∷ []) (us ++ vs)
  pub takes : (k : ℕ) (q : Position) → is_store k ≡ true → (K : Stack) (b : Built) (c : Counts) → Room C.top c (suc (counted_left l)) h
      → Arrives C [] (ask operation_name ∷ K) (keep_word (W.name n p) b) c (us ++ sign k q ∷ []) (ask M.expression ∷ make make_store ∷ K) (keep_word (sign k q) (with_lefts b (l ∷ b.lefts))) (suc (counted_left l))

abbrev pub Siding : Ceiling → ℕ → List Word → Left → Type 0
Siding C h [] l = ⊥
Siding C h (W.name n p ∷ us) l = Sided C n p h us l
Siding C h (W.constant c p ∷ us) l = ⊥
Siding C h (W.sign k p ∷ us) l = ⊥

one_side : {C : Ceiling} {n : Name} {p : Position} {h : ℕ} {us : List Word} {e : Expression} → Subscripted C n p h us (expression e) → Sided C n p h us (T.single e)
unfolding run feed choose rule_of tallied among
one_side {C} {n} {p} {h} {us} {e} x = record {
  follows = opens-on us x.opens;
  takes = λ k q i K b c room.
      arriving (x.takes (ask left_rest ∷ K) b c (omega arith)) λ d g m.
      record {
        counts = more counted d;
        grown = omega arith;
        comes =
            store-kinds (λ k. Comes C [] (ask left_rest ∷ K) (reading (push e b) d) (sign k q ∷ []) (ask M.expression ∷ make make_store ∷ K) (reading (keep_word (sign k q) (with_lefts b (T.single e ∷ b.lefts))) (more counted d)) → Comes C [] (ask operation_name ∷ K) (reading (keep_word (W.name n p) b) c) (us ++ sign k q ∷ []) (ask M.expression ∷ make make_store ∷ K) (reading (keep_word (sign k q) (with_lefts b (T.single e ∷ b.lefts))) (more counted d)))
            (λ z. referred operation_name left_rest delayed_sign q (λ K r o vs end. refl) (λ K r vs end. refl) us x.opens [] (before m (λ ws _. refl) z))
            (λ z. referred operation_name left_rest equal_sign q (λ K r o vs end. refl) (λ K r vs end. refl) us x.opens [] (before m (λ ws _. refl) z)) k i (store_word k i (omega arith));
      };
}

pub left_one : (C : Ceiling) (h : ℕ) (us : List Word) (e : Expression) → Referring C h us (expression e) → Siding C h us (T.single e)
left_one C h [] e x = absurd x
left_one C h (W.name n p ∷ us) e x = one_side x
left_one C h (W.constant n p ∷ us) e x = absurd x
left_one C h (W.sign k p ∷ us) e x = absurd x

two-sides : {C : Ceiling} {n m : Name} {p q : Position} {h : ℕ} (us vs : List Word) {e f : Expression} (o : Position) → Subscripted C n p h us (expression e) → Subscripted C m q h vs (expression f)
    → Sided C n p h (us ++ sign con_word o ∷ W.name m q ∷ vs) (T.pair e f)
unfolding run feed choose rule_of tallied among expression_no
two-sides {C} {n} {m} {p} {q} {h} us vs {e} {f} o x y = record {
  follows = λ ws _. subst (Follows (colon ∷ open_paren ∷ [])) (sym (append_assoc us (sign con_word o ∷ W.name m q ∷ vs) ws)) (opens-on us x.opens (sign con_word o ∷ W.name m q ∷ (vs ++ ws)) refl);
  takes = λ k z i K b c room.
      arriving (x.takes (ask left_rest ∷ K) b c (omega arith)) λ d g j.
      arriving (y.takes (make make_pair ∷ ask store_sign ∷ K) (push e b) d (omega arith)) λ d₁ g₁ l.
      record {
        counts = more counted d₁;
        grown = omega arith;
        comes =
            respelt (sym (append_assoc us (sign con_word o ∷ W.name m q ∷ vs) (sign k z ∷ [])))
            (referred operation_name left_rest con_word o (λ K r o vs end. refl) (λ K r vs end. refl) us x.opens (W.name m q ∷ (vs ++ sign k z ∷ []))
            (before j (λ ws _. refl) (then-words (con-word (omega arith)) (before (then-move l (building (λ _. refl))) (λ ws _. free_of k i) (pair-store-word k i (omega arith))))));
      };
}
  where
    free_of : (k : ℕ) → is_store k ≡ true → among k (open_bracket ∷ []) ≡ false
    free_of k i = store-kinds (λ k. among k (open_bracket ∷ []) ≡ false) refl refl k i

left-two-by : {C : Ceiling} {n : Name} {p : Position} {h : ℕ} (us vs : List Word) {e f : Expression} (o : Position) → Subscripted C n p h us (expression e) → Referring C h vs (expression f)
    → Sided C n p h (us ++ sign con_word o ∷ vs) (T.pair e f)
left-two-by us [] o x y = absurd y
left-two-by us (W.name n p ∷ vs) o x y = two-sides us vs o x y
left-two-by us (W.constant n p ∷ vs) o x y = absurd y
left-two-by us (W.sign k p ∷ vs) o x y = absurd y

pub left-two : (C : Ceiling) (h : ℕ) (us vs : List Word) (e f : Expression) (o : Position) → Referring C h us (expression e) → Referring C h vs (expression f) → Siding C h (us ++ sign con_word o ∷ vs) (T.pair e f)
left-two C h [] vs e f o x y = absurd x
left-two C h (W.name n p ∷ us) vs e f o x y = left-two-by us vs o x y
left-two C h (W.constant n p ∷ us) vs e f o x y = absurd x
left-two C h (W.sign k p ∷ us) vs e f o x y = absurd x
