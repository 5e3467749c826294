-- The machine takes the words of the section of operations.
use mathlib.Core.List.{List, [], ◌∷◌, ◌++◌, append_assoc, append-nil}
use Rattle.std.specs.Prelude.{◌≡◌, refl, ℕ, suc, length}
use Rattle.std.proofs.Common.{ap, sym, arith}
use Rattle.language.specs.Alternatives.{closing, plain_word}
use Rattle.language.specs.Building.{Built, begin_list, joined, keep_word, list_no, with_text, word_no}
use Rattle.language.specs.CountedWords.{counted_operations}
use Rattle.language.specs.Declaring.{make_operation}
use Rattle.language.specs.Kinds.{close_bracket, comma, equal_sign, open_bracket, operation_word}
use Rattle.language.specs.Machine.{Ask, Counts, ask, choose, control, feed, make, more, operation, operation_action, operation_more, operation_spec, operations_more, opens, reading, run, tallied, word}
use Rattle.language.specs.Notions.{in_operation, operation_of}
use Rattle.language.specs.SectionWays.{rule_of}
use Rattle.language.specs.Tree as T
use Rattle.language.specs.Tree.{Actions, Name, Operation, Text}
use Rattle.language.specs.Words as W
use Rattle.language.specs.Words.{Position, Word, sign}
use Rattle.about_grammar.specs.Acting.{Acting, back, deeper, list_done, more-tail}
use Rattle.about_grammar.specs.Conditionals.{rebuilt}
use Rattle.about_grammar.specs.Courses.{Ceiling, Comes, Stack, Under, ◌⊳◌, before, comes, respelt, starts-as, then-move, then-words, took_it}
use Rattle.about_grammar.specs.Declared.{BeforeControl, BeforeOperations, Ended, Ends, ending-kinds}
use Rattle.about_grammar.specs.Following.{among}
use Rattle.about_grammar.specs.Operations.{plain_word_lem}
use Rattle.about_grammar.specs.Operators.{building}
use Rattle.about_grammar.specs.Reaching.{Reaches, Space, amount, reaching}
use Rattle.about_grammar.specs.Taking.{arriving}
use Rattle.about_grammar.specs.Terms.{closing-word}

abbrev pub operated : Text → List Operation → Text
operated t os = record { registers = t.registers; memories = t.memories; terminals = t.terminals; operations = t.operations ++ os; states = t.states }

pub operated-more : (t : Text) (o : Operation) (os : List Operation) → operated (operated t (o ∷ [])) os ≡ operated t (o ∷ os)
operated-more t o os = ap (λ (l : List Operation). record { registers = t.registers; memories = t.memories; terminals = t.terminals; operations = l; states = t.states }) (append_assoc t.operations (o ∷ []) os)

pub record Operating (C : Ceiling) (h : ℕ) (us : List Word) (os : List Operation) : Type 0 where
  pub takes : (K : Stack) (b : Built) (c : Counts) → Space C.top c (amount 0 (length os) 0 (counted_operations os)) h
      → Reaches C [] (ask operation_spec ∷ ask operations_more ∷ K) b c us (ask operations_more ∷ K) (with_text b (operated b.text os)) (amount 0 (length os) 0 (counted_operations os))

module _ {C : Ceiling} {h : ℕ} {n : Name} {p : Position} where
  -- One operation, from its name to its closing bracket.
  operation-takes : {us : List Word} {a : Actions} (q r s : Position) → Acting C in_operation h us a → (K : Stack) (b : Built) (c : Counts) → Space C.top c (amount 0 1 0 (counted_operations (operation_of n p a ∷ []))) (suc h)
      → Reaches C [] (ask operation_spec ∷ K) b c (W.name n p ∷ sign equal_sign q ∷ sign open_bracket r ∷ (us ++ sign close_bracket s ∷ [])) K (with_text b (operated b.text (operation_of n p a ∷ []))) (amount 0 1 0 (counted_operations (operation_of n p a ∷ [])))
  unfolding run feed choose rule_of tallied counted_operations joined list_no word_no among
  operation-takes q r s x K b c space =
      arriving (x.takes (more-tail C in_operation) (closing close_bracket ∷ make make_operation ∷ K) (keep_word (W.name n p) b) (deeper (more operation c)) T.done b.lists (omega arith)) λ d g m.
      record {
        counts = back d;
        gained = omega arith;
        comes =
            named (omega arith) ⊳ plain_word_lem (omega arith) ⊳ opened (omega arith) ⊳ starts-as (building (λ _. refl)) (before (list_done in_operation m) (λ ws _. refl) (then-move (closing-word (omega arith)) (building (λ _. refl))));
      }
    where
      named : Under C.top (more operation c)
          → Comes C [] (ask operation_spec ∷ K) (reading b c) (W.name n p ∷ []) (plain_word equal_sign ∷ word open_bracket opens ∷ make begin_list ∷ ask operation_action ∷ ask operation_more ∷ closing close_bracket ∷ make make_operation ∷ K) (reading (keep_word (W.name n p) b) (more operation c))
      named u = comes (λ ws end _. took_it C _ _ _ _ u _)

      opened : Under C.top (deeper (more operation c))
          → Comes C [] (word open_bracket opens ∷ make begin_list ∷ ask operation_action ∷ ask operation_more ∷ closing close_bracket ∷ make make_operation ∷ K) (reading (keep_word (W.name n p) b) (more operation c)) (sign open_bracket r ∷ [])
          (make begin_list ∷ ask operation_action ∷ ask operation_more ∷ closing close_bracket ∷ make make_operation ∷ K) (reading (keep_word (W.name n p) b) (deeper (more operation c)))
      opened u = comes (λ ws end _. took_it C _ _ _ _ u _)

  pub operations-one : {us : List Word} {a : Actions} (q r s : Position) → Acting C in_operation h us a
      → Operating C (suc h) (W.name n p ∷ sign equal_sign q ∷ sign open_bracket r ∷ (us ++ sign close_bracket s ∷ [])) (operation_of n p a ∷ [])
  operations-one q r s x = record { takes = λ K b c space. operation-takes q r s x (ask operations_more ∷ K) b c space }

  pub operations-more : {us vs : List Word} {a : Actions} {os : List Operation} (q r s t : Position) → Acting C in_operation h us a → Operating C (suc h) vs os
      → Operating C (suc h) (W.name n p ∷ sign equal_sign q ∷ sign open_bracket r ∷ (us ++ sign close_bracket s ∷ sign comma t ∷ vs)) (operation_of n p a ∷ os)
  unfolding run feed choose rule_of tallied counted_operations
  operations-more {us} {vs} {a} {os} q r s t x y = record {
    takes = λ K b c space.
        reaching (operation-takes q r s x (ask operations_more ∷ K) b c (omega arith)) λ d g m.
        reaching (y.takes K (with_text b (operated b.text (operation_of n p a ∷ []))) d (omega arith)) λ d₁ i l.
        record {
          counts = d₁;
          gained = omega arith;
          comes =
              respelt (ap (λ (l : List Word). W.name n p ∷ sign equal_sign q ∷ sign open_bracket r ∷ l) (append_assoc us (sign close_bracket s ∷ []) (sign comma t ∷ vs)))
              (then-words m (at-comma K (with_text b (operated b.text (operation_of n p a ∷ []))) d (omega arith) ⊳ rebuilt (ap (with_text b) (operated-more b.text (operation_of n p a) os)) l));
        };
  }
    where
      at-comma : (K : Stack) (b : Built) (c : Counts) → Under C.top c → Comes C [] (ask operations_more ∷ K) (reading b c) (sign comma t ∷ []) (ask operation_spec ∷ ask operations_more ∷ K) (reading b c)
      at-comma K b c u = comes (λ ws end _. took_it C _ _ _ _ u _)

-- ---- The section. Its ending may be left out.

pub record MayEnd (C : Ceiling) (us : List Word) : Type 0 where
  pub next : Ask
  pub ready : BeforeControl C next
  pub takes : (K : Stack) (b : Built) (c : Counts) → Under C.top c → Comes C [] (ask operations_more ∷ K) (reading b c) us (ask next ∷ K) (reading b c)

pub no-ending : {C : Ceiling} → MayEnd C []
unfolding run feed choose rule_of tallied
no-ending {C} = record { next = operations_more; ready = record { to = λ u. comes (λ ws end _. took_it C _ _ _ _ u _) }; takes = λ K b c u. comes (λ ws end _. refl) }

operations-end : (C : Ceiling) → Ends C operations_more (ask control ∷ [])
unfolding run feed choose rule_of tallied
operations-end C = record { by = λ k e {K} {b} {c} {p} u. ending-kinds (λ k. Comes C [] (ask operations_more ∷ K) (reading b c) (sign k p ∷ []) (ask control ∷ K) (reading b c)) (comes (λ ws end _. took_it C _ _ _ _ u _)) (comes (λ ws end _. took_it C _ _ _ _ u _)) k e }

pub some-ending : {C : Ceiling} {us : List Word} → Ended C us → MayEnd C us
unfolding run feed choose rule_of tallied
some-ending {C} x = record { next = control; ready = record { to = λ u. comes (λ ws end _. took_it C _ _ _ _ u _) }; takes = x.takes (operations-end C) }

pub record OperationsFrom (C : Ceiling) (h : ℕ) (from : Ask) (us : List Word) (os : List Operation) : Type 0 where
  pub next : Ask
  pub ready : BeforeControl C next
  pub takes : (K : Stack) (b : Built) (c : Counts) → Space C.top c (amount 0 (length os) 0 (counted_operations os)) h
      → Reaches C [] (ask from ∷ K) b c us (ask next ∷ K) (with_text b (operated b.text os)) (amount 0 (length os) 0 (counted_operations os))

pub record OperationsPart (C : Ceiling) (h : ℕ) (us : List Word) (os : List Operation) : Type 0 where
  pub from : (a : Ask) → BeforeOperations C a → OperationsFrom C h a us os

pub operated-none : (t : Text) → operated t [] ≡ t
operated-none t = ap (λ (l : List Operation). record { registers = t.registers; memories = t.memories; terminals = t.terminals; operations = l; states = t.states }) (append-nil t.operations)

pub no-operations : {C : Ceiling} {h : ℕ} → OperationsPart C h [] []
unfolding counted_operations
no-operations = record {
  from = λ a r. record {
    next = a;
    ready = r.control;
    takes = λ K b c space. record { counts = c; gained = omega arith; comes = rebuilt (ap (with_text b) (sym (operated-none b.text))) (comes (λ ws end _. refl)) };
  };
}

pub some-operations : {C : Ceiling} {h : ℕ} {us vs : List Word} {p : Position} {os : List Operation} → Operating C h us os → MayEnd C vs → OperationsPart C h (sign operation_word p ∷ (us ++ vs)) os
some-operations {os = os} x y = record {
  from = λ a r. record {
    next = y.next;
    ready = y.ready;
    takes = λ K b c space.
        reaching (x.takes K b c (omega arith)) λ d g m.
        record { counts = d; gained = g; comes = r.to (omega arith) ⊳ then-words m (y.takes K (with_text b (operated b.text os)) d (omega arith)) };
  };
}
