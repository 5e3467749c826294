-- The machine takes the words of each action that is no conditional.
use Rattle.std.specs.Prelude.{true, false, ◌≡◌, ℕ}
use mathlib.Core.List.{List, [], ◌∷◌, ◌++◌, append_assoc, map}
use Rattle.std.proofs.Common.{ap, sym, arith}
use Rattle.std.proofs.Math.Path.{refl, subst}
use Rattle.language.specs.Alternatives.{after_step, enter}
use Rattle.language.specs.Building.{Built, expression_no, joined, keep_word, list_no, make_call, make_goto, make_perform, make_return, make_store, make_whole, with_lefts, with_lists, word_no}
use Rattle.language.specs.CountedWords.{counted_actions}
use Rattle.language.specs.Declaring.{tree_steps}
use Rattle.language.specs.Kinds.{a_name, at_sign, call_sign, colon, con_word, delayed_sign, equal_sign, goto_sign, open_bracket, open_paren, return_word}
use Rattle.language.specs.Machine.{Counts, Reading, ask, choose, counted, feed, keep, left_rest, make, more, operation_name, reading, run, set_sign, state_action, state_name, subscript, subscripts, tallied}
use Rattle.language.specs.Notions.{Section, expression, in_operation, in_state, is_store}
use Rattle.language.specs.SectionWays.{rule_of}
use Rattle.language.specs.Tree as T
use Rattle.language.specs.Tree.{Actions, Expression, Left, Name}
use Rattle.language.specs.Ways.{left_ways, state_name_ways}
use Rattle.language.specs.Words as W
use Rattle.language.specs.Words.{Position, Word, sign}
use Rattle.about_grammar.specs.Acting.{Acting, Resting, after_action, name_of}
use Rattle.about_grammar.specs.Conditionals.{joined-assoc, rebuilt}
use Rattle.about_grammar.specs.Courses.{Ceiling, Comes, Stack, Under, ◌⊳◌, asking, before, comes, respelt, starts-as, then-move, then-words, took_it}
use Rattle.about_grammar.specs.Following.{Follows, after_or, among, follows-within, within}
use Rattle.about_grammar.specs.Levels.{Boolean, whole-expression}
use Rattle.about_grammar.specs.Operators.{building, leaving-counted}
use Rattle.about_grammar.specs.Stores.{Sided, Siding, name-word, opens-on, referred, set_word, set_of, store-kinds}
use Rattle.about_grammar.specs.Taking.{Referring, Subscripted, arriving}

-- A name alone is an operation's, and counts.
no-reference : {C : Ceiling} (s : Section) (n : Name) (p : Position) (b : Built) {K : Stack} {c : Counts} {l : Actions} {ls : List Actions} → Under C.top (more counted c)
    → Comes C after_action (ask (name_of s) ∷ K) (reading (keep_word (W.name n p) (with_lists b (l ∷ ls))) c) [] K (reading (with_lists b (joined l (T.perform n p T.done) ∷ ls)) (more counted c))
unfolding rule_of within among list_no word_no
no-reference in_operation n p b u =
    asking (λ vs f. follows-within (open_bracket ∷ con_word ∷ at_sign ∷ delayed_sign ∷ equal_sign ∷ []) after_action refl vs f)
    (leaving-counted (enter open_bracket (ask subscript ∷ ask left_rest ∷ []) ∷ map (after_step make_whole []) (left_ways tree_steps)) make_perform refl u (λ _. refl))
no-reference in_state n p b u =
    asking (λ vs f. follows-within (open_bracket ∷ at_sign ∷ []) after_action refl vs f) (leaving-counted (state_name_ways tree_steps) make_perform refl u (λ _. refl))

module _ {C : Ceiling} {s : Section} {h : ℕ} where
  -- What follows an action may follow an expression.
  pub after-rest : {ws : List Word} {a : Actions} → Resting C s h ws a → (vs : List Word) → Follows after_action vs → Follows after_or (ws ++ vs)
  unfolding within among
  after-rest {ws} x vs f = follows-within after_or after_action refl (ws ++ vs) (x.follows vs f)

  pub act-perform : {n : Name} {p : Position} {ws : List Word} {a : Actions} → Resting C s h ws a → Acting C s h (W.name n p ∷ ws) (T.perform n p a)
  unfolding within among joined list_no word_no counted_actions
  act-perform {n} {p} {ws} {a} x = record {
    starts = λ vs f. follows-within (colon ∷ open_paren ∷ []) after_action refl (ws ++ vs) (x.follows vs f);
    takes = λ {t} i K b c l ls room.
        arriving (x.takes i K b (more counted c) (joined l (T.perform n p T.done)) ls (omega arith)) λ d g m.
        record {
          counts = d;
          grown = omega arith;
          comes = name-word s (omega arith) ⊳ before (no-reference s n p b (omega arith)) x.follows (rebuilt (ap (λ (v : Actions). with_lists b (v ∷ ls)) (joined-assoc l (T.perform n p T.done) a)) m);
        };
  }

module _ {C : Ceiling} {h : ℕ} where
  -- A reference that is set.
  set-by : {n : Name} {q : Position} (us : List Word) {ws : List Word} {p : Position} {e : Expression} {a : Actions} (s : Section)
      → ((K : Stack) (r : Reading Built) (L : Stack) (z : Reading Built) → Comes C after_action (ask subscripts ∷ ask (set_of s) ∷ K) r (us ++ sign at_sign p ∷ ws) L z → Comes C after_action (ask (name_of s) ∷ K) r (us ++ sign at_sign p ∷ ws) L z)
      → Subscripted C n q h us (expression e) → Resting C s h ws a → Acting C s h (W.name n q ∷ (us ++ sign at_sign p ∷ ws)) (T.set p e a)
  unfolding among joined list_no word_no expression_no counted_actions
  set-by {n} {q} us {ws} {p} {e} {a} s same x y = record {
    starts = λ vs f. subst (Follows (colon ∷ open_paren ∷ [])) (sym (append_assoc us (sign at_sign p ∷ ws) vs)) (opens-on us x.opens (sign at_sign p ∷ (ws ++ vs)) refl);
    takes = λ {t} i K b c l ls room.
        arriving (x.takes (ask (set_of s) ∷ ask t ∷ K) (with_lists b (l ∷ ls)) c (omega arith)) λ d g m.
        arriving (y.takes i K b (more counted d) (joined l (T.set p e T.done)) ls (omega arith)) λ d₁ j o.
        record {
          counts = d₁;
          grown = omega arith;
          comes =
              name-word s (omega arith) ⊳ same _ _ _ _ (before m (λ vs _. refl) (set_word s (omega arith)
              ⊳ starts-as (building (λ _. refl)) (rebuilt (ap (λ (v : Actions). with_lists b (v ∷ ls)) (joined-assoc l (T.set p e T.done) a)) o)));
        };
  }

  set-named : {n : Name} {q : Position} (us : List Word) {ws : List Word} {p : Position} {e : Expression} {a : Actions} (s : Section) → Subscripted C n q h us (expression e) → Resting C s h ws a
      → Acting C s h (W.name n q ∷ (us ++ sign at_sign p ∷ ws)) (T.set p e a)
  unfolding run feed choose rule_of tallied
  set-named us {ws} {p} in_operation x y = set-by us in_operation (λ _ _ _ _ z. referred operation_name left_rest at_sign p (λ K r o vs end. refl) (λ K r vs end. refl) us x.opens ws z) x y
  set-named us {ws} {p} in_state x y = set-by us in_state (λ _ _ _ _ z. referred state_name set_sign at_sign p (λ K r o vs end. refl) (λ K r vs end. refl) us x.opens ws z) x y

  pub act-set : (s : Section) (us : List Word) {ws : List Word} {p : Position} {e : Expression} {a : Actions} → Referring C h us (expression e) → Resting C s h ws a
      → Acting C s h (us ++ sign at_sign p ∷ ws) (T.set p e a)
  act-set s [] x y = absurd x
  act-set s (W.name n q ∷ us) x y = set-named us s x y
  act-set s (W.constant n q ∷ us) x y = absurd x
  act-set s (W.sign k q ∷ us) x y = absurd x

  store_by : {n : Name} {q : Position} (us : List Word) {vs ws : List Word} {p : Position} {k : ℕ} {l : Left} {e : Expression} {a : Actions} → is_store k ≡ true → Sided C n q h us l
      → Boolean C h vs (expression e) → Resting C in_operation h ws a → Acting C in_operation h (W.name n q ∷ (us ++ sign k p ∷ (vs ++ ws))) (T.store k p l e a)
  unfolding among joined list_no word_no expression_no counted_actions
  store_by {n} {q} us {vs} {ws} {p} {k} {l} {e} {a} is x y z = record {
    starts = λ xs f. subst (Follows (colon ∷ open_paren ∷ [])) (sym (append_assoc us (sign k p ∷ (vs ++ ws)) xs)) (x.follows (sign k p ∷ ((vs ++ ws) ++ xs)) (store-kinds (λ k. among k (colon ∷ open_paren ∷ []) ≡ false) refl refl k is));
    takes = λ {t} i K b c m ls room.
        arriving (x.takes k p is (ask t ∷ K) (with_lists b (m ∷ ls)) c (omega arith)) λ d g j.
        arriving ((whole-expression y).takes (make make_store ∷ ask t ∷ K) (keep_word (sign k p) (with_lefts (with_lists b (m ∷ ls)) (l ∷ b.lefts))) d (omega arith)) λ d₁ g₁ j₁.
        arriving (z.takes i K b d₁ (joined m (T.store k p l e T.done)) ls (omega arith)) λ d₂ g₂ j₂.
        record {
          counts = d₂;
          grown = omega arith;
          comes =
              name-word in_operation (omega arith) ⊳ respelt (append_assoc us (sign k p ∷ []) (vs ++ ws)) (then-words j
              (before (then-move j₁ (building (λ _. refl))) (after-rest z) (rebuilt (ap (λ (v : Actions). with_lists b (v ∷ ls)) (joined-assoc m (T.store k p l e T.done) a)) j₂)));
        };
  }

  pub act-store : {k : ℕ} (us : List Word) {vs ws : List Word} {p : Position} {l : Left} {e : Expression} {a : Actions} → is_store k ≡ true → Siding C h us l
      → Boolean C h vs (expression e) → Resting C in_operation h ws a → Acting C in_operation h (us ++ sign k p ∷ (vs ++ ws)) (T.store k p l e a)
  act-store [] is x y z = absurd x
  act-store (W.name n q ∷ us) is x y z = store_by us is x y z
  act-store (W.constant n q ∷ us) is x y z = absurd x
  act-store (W.sign k q ∷ us) is x y z = absurd x

  -- In a state: where it goes on.
  pub act-goto : {n : Name} {p q : Position} {ws : List Word} {a : Actions} → Resting C in_state h ws a → Acting C in_state h (sign goto_sign p ∷ W.name n q ∷ ws) (T.goto n q a)
  unfolding run feed choose rule_of tallied among joined list_no word_no counted_actions
  act-goto {n} {p} {q} {ws} {a} x = record {
    starts = λ vs f. refl;
    takes = λ {t} i K b c l ls room.
        arriving (x.takes i K b (more counted c) (joined l (T.goto n q T.done)) ls (omega arith)) λ d g m.
        record {
          counts = d;
          grown = omega arith;
          comes = eat (with_lists b (l ∷ ls)) (omega arith) ⊳ named (with_lists b (l ∷ ls)) ⊳ starts-as (building (λ _. refl)) (rebuilt (ap (λ (v : Actions). with_lists b (v ∷ ls)) (joined-assoc l (T.goto n q T.done) a)) m);
        };
  }
    where
      eat : (b : Built) {K : Stack} {c : Counts} → Under C.top (more counted c) → Comes C [] (ask state_action ∷ K) (reading b c) (sign goto_sign p ∷ []) (keep a_name ∷ make make_goto ∷ K) (reading b (more counted c))
      eat b u = comes (λ ws end _. took_it C _ _ _ _ u _)

      named : (b : Built) {K : Stack} {c : Counts} → Comes C [] (keep a_name ∷ make make_goto ∷ K) (reading b c) (W.name n q ∷ []) (make make_goto ∷ K) (reading (keep_word (W.name n q) b) c)
      named b = comes (λ ws end _. refl)

  pub act-call : {n : Name} {p q : Position} {ws : List Word} {a : Actions} → Resting C in_state h ws a → Acting C in_state h (sign call_sign p ∷ W.name n q ∷ ws) (T.call n q a)
  unfolding run feed choose rule_of tallied among joined list_no word_no counted_actions
  act-call {n} {p} {q} {ws} {a} x = record {
    starts = λ vs f. refl;
    takes = λ {t} i K b c l ls room.
        arriving (x.takes i K b (more counted c) (joined l (T.call n q T.done)) ls (omega arith)) λ d g m.
        record {
          counts = d;
          grown = omega arith;
          comes = eat (with_lists b (l ∷ ls)) (omega arith) ⊳ named (with_lists b (l ∷ ls)) ⊳ starts-as (building (λ _. refl)) (rebuilt (ap (λ (v : Actions). with_lists b (v ∷ ls)) (joined-assoc l (T.call n q T.done) a)) m);
        };
  }
    where
      eat : (b : Built) {K : Stack} {c : Counts} → Under C.top (more counted c) → Comes C [] (ask state_action ∷ K) (reading b c) (sign call_sign p ∷ []) (keep a_name ∷ make make_call ∷ K) (reading b (more counted c))
      eat b u = comes (λ ws end _. took_it C _ _ _ _ u _)

      named : (b : Built) {K : Stack} {c : Counts} → Comes C [] (keep a_name ∷ make make_call ∷ K) (reading b c) (W.name n q ∷ []) (make make_call ∷ K) (reading (keep_word (W.name n q) b) c)
      named b = comes (λ ws end _. refl)

  pub act-return : {p : Position} {ws : List Word} {a : Actions} → Resting C in_state h ws a → Acting C in_state h (sign return_word p ∷ ws) (T.return p a)
  unfolding run feed choose rule_of tallied among joined list_no word_no counted_actions
  act-return {p} {ws} {a} x = record {
    starts = λ vs f. refl;
    takes = λ {t} i K b c l ls room.
        arriving (x.takes i K b (more counted c) (joined l (T.return p T.done)) ls (omega arith)) λ d g m.
        record {
          counts = d;
          grown = omega arith;
          comes = eat (with_lists b (l ∷ ls)) (omega arith) ⊳ starts-as (building (λ _. refl)) (rebuilt (ap (λ (v : Actions). with_lists b (v ∷ ls)) (joined-assoc l (T.return p T.done) a)) m);
        };
  }
    where
      eat : (b : Built) {K : Stack} {c : Counts} → Under C.top (more counted c) → Comes C [] (ask state_action ∷ K) (reading b c) (sign return_word p ∷ []) (make make_return ∷ K) (reading (keep_word (sign return_word p) b) (more counted c))
      eat b u = comes (λ ws end _. took_it C _ _ _ _ u _)
