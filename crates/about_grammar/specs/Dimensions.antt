-- The machine takes the words of bounds and dimensions, of registers and memories and of terminals.
use Rattle.std.specs.Prelude.{List, [], ◌∷◌, ◌++◌, refl, ℕ, suc}
use Rattle.std.proofs.Common.{append_assoc, ap, sym, arith}
use Rattle.language.specs.Alternatives.{after_step, closing, enter, kept, lead}
use Rattle.language.specs.Building.{Built, keep_word, with_ends, with_extents, with_text, word_no}
use Rattle.language.specs.Declaring.{make_both, make_last, make_no_dimension, make_plain, make_row, make_table, with_terminal}
use Rattle.language.specs.Kinds.{a_constant, close_bracket, colon, comma, equal_sign, open_bracket}
use Rattle.language.specs.Machine.{Counts, ask, choose, dimension_rest, dimensions, feed, function_of, keep, make, range_rest, reading, run, tallied, terminal_dimensions, terminal_function, terminal_rest}
use Rattle.language.specs.Notions.{AtMostOne, as_declared, one_bound, pair_of}
use Rattle.language.specs.SectionWays.{rule_of}
use Rattle.language.specs.Tree as T
use Rattle.language.specs.Tree.{Ends, Extent, Name, plain, row, table, unspecified}
use Rattle.language.specs.Words as W
use Rattle.language.specs.Words.{Constant, Position, Word, sign}
use Rattle.about_grammar.specs.Acting.{back, deeper}
use Rattle.about_grammar.specs.Courses.{Ceiling, Comes, Room, Stack, Under, ◌⊳◌, asking, at_last, before, comes, ends-in, respelt, then-move, took_it}
use Rattle.about_grammar.specs.Following.{among, follows-within, within}
use Rattle.about_grammar.specs.Operators.{building, leaving}
use Rattle.about_grammar.specs.Taking.{Arrives}
use Rattle.about_grammar.specs.Terms.{closing-word}

-- ---- Bounds.

pub record Ranged (C : Ceiling) (us : List Word) (x : Ends) : Type 0 where
  pub takes : (K : Stack) (b : Built) (c : Counts) → Under C.top c
      → Comes C (colon ∷ []) (keep a_constant ∷ ask range_rest ∷ K) (reading b c) us K (reading (with_ends b (x ∷ b.ends)) c)

pub range-both : {C : Ceiling} {n m : Constant} {p q r : Position} → Ranged C (W.constant n p ∷ sign colon q ∷ W.constant m r ∷ []) (pair_of n p m r)
unfolding run feed choose rule_of tallied word_no
range-both {C} {n} {m} {p} {q} {r} = record { takes = λ K b c u. first K b c ⊳ at-colon K (keep_word (W.constant n p) b) c u ⊳ then-move (at_last (last K (keep_word (W.constant n p) b) c)) (building (λ _. refl)) }
  where
    first : (K : Stack) (b : Built) (c : Counts) → Comes C [] (keep a_constant ∷ ask range_rest ∷ K) (reading b c) (W.constant n p ∷ []) (ask range_rest ∷ K) (reading (keep_word (W.constant n p) b) c)
    first K b c = comes (λ ws end _. refl)

    at-colon : (K : Stack) (b : Built) (c : Counts) → Under C.top c → Comes C [] (ask range_rest ∷ K) (reading b c) (sign colon q ∷ []) (keep a_constant ∷ make make_both ∷ K) (reading b c)
    at-colon K b c u = comes (λ ws end _. took_it C _ _ _ _ u _)

    last : (K : Stack) (b : Built) (c : Counts) → Comes C [] (keep a_constant ∷ make make_both ∷ K) (reading b c) (W.constant m r ∷ []) (make make_both ∷ K) (reading (keep_word (W.constant m r) b) c)
    last K b c = comes (λ ws end _. refl)

pub range_last : {C : Ceiling} {m : Constant} {p : Position} → Ranged C (W.constant m p ∷ []) (pair_of one_bound p m p)
unfolding run feed rule_of word_no
range_last {C} {m} {p} = record { takes = λ K b c u. ends-in (only K b c) (λ ws f. f) (leaving (lead colon (keep a_constant ∷ make make_both ∷ []) ∷ []) make_last refl (λ _. refl)) }
  where
    only : (K : Stack) (b : Built) (c : Counts) → Comes C (colon ∷ []) (keep a_constant ∷ ask range_rest ∷ K) (reading b c) (W.constant m p ∷ []) (ask range_rest ∷ K) (reading (keep_word (W.constant m p) b) c)
    only K b c = comes (λ ws end _. refl)

-- ---- Dimensions. Behind those of a terminal its function may come.

pub record Dimensioned (C : Ceiling) (h : ℕ) (us : List Word) (x : Extent) : Type 0 where
  pub takes : (K : Stack) (b : Built) (c : Counts) → Room C.top c 0 h → Arrives C (open_bracket ∷ []) (ask dimensions ∷ K) b c us K (with_extents b (x ∷ b.extents)) 0
  pub plainly : (n : Name) (p : Position) (K : Stack) (b : Built) (c : Counts) → Room C.top c 0 h
      → Arrives C (open_bracket ∷ equal_sign ∷ []) (ask terminal_dimensions ∷ K) (keep_word (W.name n p) b) c us K (with_text b (with_terminal b.text (as_declared plain n p x unspecified))) 0
  pub with-function : AtMostOne x → (q : Position) (K : Stack) (b : Built) (c : Counts) → Room C.top c 0 h
      → Arrives C [] (ask terminal_dimensions ∷ K) b c (us ++ sign equal_sign q ∷ []) (ask function_of ∷ K) (keep_word (sign equal_sign q) (with_extents b (x ∷ b.extents))) 0

pub no-dimension : {C : Ceiling} {h : ℕ} → Dimensioned C h [] T.single
unfolding run feed choose rule_of tallied word_no
no-dimension {C} {h} = record {
  takes = λ K b c room. record { counts = c; grown = omega arith; comes = leaving (enter open_bracket (keep a_constant ∷ ask range_rest ∷ ask dimension_rest ∷ []) ∷ []) make_no_dimension refl (λ _. refl) };
  plainly = λ n p K b c room. record {
    counts = c;
    grown = omega arith;
    comes = leaving (enter open_bracket (keep a_constant ∷ ask range_rest ∷ ask terminal_rest ∷ []) ∷ after_step make_no_dimension [] (kept equal_sign (ask function_of ∷ [])) ∷ []) (λ q z. make_plain q (make_no_dimension q z)) refl (λ _. refl);
  };
  with-function = λ _ q K b c room. record { counts = c; grown = omega arith; comes = eat q K b c (omega arith) };
}
  where
    eat : (q : Position) (K : Stack) (b : Built) (c : Counts) → Under C.top c → Comes C [] (ask terminal_dimensions ∷ K) (reading b c) (sign equal_sign q ∷ []) (ask function_of ∷ K) (reading (keep_word (sign equal_sign q) (with_extents b (T.single ∷ b.extents))) c)
    eat q K b c u = comes (λ ws end _. took_it C _ _ _ _ u _)

module _ {C : Ceiling} {K : Stack} {b : Built} {c : Counts} {p : Position} where
  open-dimensions : Under C.top (deeper c) → Comes C [] (ask dimensions ∷ K) (reading b c) (sign open_bracket p ∷ []) (keep a_constant ∷ ask range_rest ∷ ask dimension_rest ∷ K) (reading b (deeper c))
  unfolding run feed choose rule_of tallied
  open-dimensions u = comes (λ ws end _. took_it C _ _ _ _ u _)

  open-terminal : Under C.top (deeper c) → Comes C [] (ask terminal_dimensions ∷ K) (reading b c) (sign open_bracket p ∷ []) (keep a_constant ∷ ask range_rest ∷ ask terminal_rest ∷ K) (reading b (deeper c))
  unfolding run feed choose rule_of tallied
  open-terminal u = comes (λ ws end _. took_it C _ _ _ _ u _)

  shut_row : Under C.top (back c) → Comes C [] (ask dimension_rest ∷ K) (reading b c) (sign close_bracket p ∷ []) (make make_row ∷ K) (reading b (back c))
  unfolding run feed choose rule_of tallied
  shut_row u = comes (λ ws end _. took_it C _ _ _ _ u _)

  shut-terminal-row : Under C.top (back c) → Comes C [] (ask terminal_rest ∷ K) (reading b c) (sign close_bracket p ∷ []) (make make_row ∷ ask terminal_function ∷ K) (reading b (back c))
  unfolding run feed choose rule_of tallied
  shut-terminal-row u = comes (λ ws end _. took_it C _ _ _ _ u _)

  next-dimension : Under C.top c → Comes C [] (ask dimension_rest ∷ K) (reading b c) (sign comma p ∷ []) (keep a_constant ∷ ask range_rest ∷ closing close_bracket ∷ make make_table ∷ K) (reading b c)
  unfolding run feed choose rule_of tallied
  next-dimension u = comes (λ ws end _. took_it C _ _ _ _ u _)

  next-terminal-dimension : Under C.top c → Comes C [] (ask terminal_rest ∷ K) (reading b c) (sign comma p ∷ []) (keep a_constant ∷ ask range_rest ∷ closing close_bracket ∷ make make_table ∷ make make_plain ∷ K) (reading b c)
  unfolding run feed choose rule_of tallied
  next-terminal-dimension u = comes (λ ws end _. took_it C _ _ _ _ u _)

  equal_word : Under C.top c → Comes C [] (ask terminal_function ∷ K) (reading b c) (sign equal_sign p ∷ []) (ask function_of ∷ K) (reading (keep_word (sign equal_sign p) b) c)
  unfolding run feed choose rule_of tallied
  equal_word u = comes (λ ws end _. took_it C _ _ _ _ u _)

pub one-dimension : {C : Ceiling} {h : ℕ} {us : List Word} {p : Position} (q : Position) {x : Ends} → Ranged C us x → Dimensioned C (suc h) (sign open_bracket p ∷ (us ++ sign close_bracket q ∷ [])) (row x)
unfolding rule_of word_no among within
one-dimension {C} {h} {us} {p} q {x} z = record {
  takes = λ K b c room. record {
    counts = back (deeper c);
    grown = omega arith;
    comes = open-dimensions (omega arith) ⊳ before (z.takes (ask dimension_rest ∷ K) b (deeper c) (omega arith)) (λ ws _. refl) (then-move (at_last (shut_row (omega arith))) (building (λ _. refl)));
  };
  plainly = λ n o K b c room. record {
    counts = back (deeper c);
    grown = omega arith;
    comes =
        open-terminal (omega arith) ⊳ before (z.takes (ask terminal_rest ∷ K) (keep_word (W.name n o) b) (deeper c) (omega arith)) (λ ws _. refl)
        (ends-in {ks = equal_sign ∷ []} (then-move (at_last (shut-terminal-row (omega arith))) (building (λ _. refl))) (λ ws f. follows-within (equal_sign ∷ []) (open_bracket ∷ equal_sign ∷ []) refl ws f)
        (asking (λ ws f. follows-within (equal_sign ∷ []) (open_bracket ∷ equal_sign ∷ []) refl ws f) (leaving (kept equal_sign (ask function_of ∷ []) ∷ []) make_plain refl (λ _. refl))));
  };
  with-function = λ _ o K b c room. record {
    counts = back (deeper c);
    grown = omega arith;
    comes =
        respelt (ap (λ (l : List Word). sign open_bracket p ∷ l) (sym (append_assoc us (sign close_bracket q ∷ []) (sign equal_sign o ∷ []))))
        (open-terminal (omega arith) ⊳ before (z.takes (ask terminal_rest ∷ K) b (deeper c) (omega arith)) (λ ws _. refl)
        (then-move (shut-terminal-row (omega arith)) (building (λ _. refl)) ⊳ equal_word (omega arith)));
  };
}

pub two-dimensions : {C : Ceiling} {h : ℕ} {us vs : List Word} {p : Position} (q r : Position) {x y : Ends} → Ranged C us x → Ranged C vs y
    → Dimensioned C (suc h) (sign open_bracket p ∷ (us ++ sign comma q ∷ (vs ++ sign close_bracket r ∷ []))) (table x y)
unfolding word_no among
two-dimensions {C} {h} {us} {vs} {p} q r {x} {y} z v = record {
  takes = λ K b c room. record {
    counts = back (deeper c);
    grown = omega arith;
    comes =
        open-dimensions (omega arith) ⊳ before (z.takes (ask dimension_rest ∷ K) b (deeper c) (omega arith)) (λ ws _. refl) (next-dimension (omega arith)
        ⊳ before (v.takes (closing close_bracket ∷ make make_table ∷ K) (with_ends b (x ∷ b.ends)) (deeper c) (omega arith)) (λ ws _. refl) (then-move (at_last (closing-word (omega arith))) (building (λ _. refl))));
  };
  plainly = λ n o K b c room. record {
    counts = back (deeper c);
    grown = omega arith;
    comes =
        open-terminal (omega arith) ⊳ before (z.takes (ask terminal_rest ∷ K) (keep_word (W.name n o) b) (deeper c) (omega arith)) (λ ws _. refl) (next-terminal-dimension (omega arith)
        ⊳ before (v.takes (closing close_bracket ∷ make make_table ∷ make make_plain ∷ K) (with_ends (keep_word (W.name n o) b) (x ∷ b.ends)) (deeper c) (omega arith)) (λ ws _. refl)
        (then-move (then-move (at_last (closing-word (omega arith))) (building (λ _. refl))) (building (λ _. refl))));
  };
  with-function = λ f o K b c room. absurd f;
}
