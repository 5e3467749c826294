-- The machine takes the words of each reference behind its name.
use mathlib.Core.List.{List, [], ◌∷◌, ◌++◌}
use Rattle.std.proofs.Math.Path.{refl}
use Rattle.std.specs.Prelude.{ℕ, suc, ◌-◌}
use Rattle.std.proofs.Common.{arith}
use Rattle.language.specs.Alternatives.{closing, enter}
use Rattle.language.specs.Building.{Built, expression_no, keep_word, make_one, make_part, make_two, make_whole, make_word_part, word_no}
use Rattle.language.specs.CountedWords.{counted_expression}
use Rattle.language.specs.Kinds.{a_constant, close_bracket, colon, comma, open_bracket}
use Rattle.language.specs.Machine.{Counts, after_constant, after_second_constant, after_subscript, ask, choose, feed, keep, make, nested, operand_rest, reading, run, second, second_end, second_option, second_rest, subscript, subscripts, tallied}
use Rattle.language.specs.Notions.{between_subscripts, expression, pair_of}
use Rattle.language.specs.SectionWays.{rule_of}
use Rattle.language.specs.Tree.{Expression, Name, one, part, two, whole, word_part}
use Rattle.language.specs.Words as W
use Rattle.language.specs.Words.{Constant, Position, Word, sign}
use Rattle.about_grammar.specs.Courses.{Ceiling, Comes, Stack, Under, ◌⊳◌, at_last, before, comes, ends-in, then-move, took_it}
use Rattle.about_grammar.specs.Following.{after_term, among}
use Rattle.about_grammar.specs.Levels.{Boolean}
use Rattle.about_grammar.specs.Operators.{building, leaving}
use Rattle.about_grammar.specs.Subscripts.{first-subscript, second-subscript}
use Rattle.about_grammar.specs.Taking.{Subscripted, arriving, push}
use Rattle.about_grammar.specs.Terms.{closing-word}

abbrev deeper : Counts → Counts
deeper c = nested (suc c.nesting) c

abbrev back : Counts → Counts
back c = nested (c.nesting - 1) c

-- The words of references as the machine takes them.
module _ {C : Ceiling} {K : Stack} {b : Built} {c : Counts} {p : Position} where
  opened : Under C.top (deeper c) → Comes C [] (ask subscripts ∷ K) (reading b c) (sign open_bracket p ∷ []) (ask subscript ∷ K) (reading b (deeper c))
  unfolding run feed choose rule_of tallied
  opened u = comes (λ ws end _. took_it C _ _ _ _ u _)

  shut-first : Under C.top (back c) → Comes C [] (ask after_subscript ∷ K) (reading b c) (sign close_bracket p ∷ []) (ask second_option ∷ K) (reading b (back c))
  unfolding run feed choose rule_of tallied
  shut-first u = comes (λ ws end _. took_it C _ _ _ _ u _)

  opened-again : Under C.top (deeper c) → Comes C [] (ask second_option ∷ K) (reading b c) (sign open_bracket p ∷ []) (ask second ∷ K) (reading b (deeper c))
  unfolding run feed choose rule_of tallied
  opened-again u = comes (λ ws end _. took_it C _ _ _ _ u _)

  at-comma : Under C.top c → Comes C [] (ask after_subscript ∷ K) (reading b c) (sign comma p ∷ []) (ask second ∷ K) (reading b c)
  unfolding run feed choose rule_of tallied
  at-comma u = comes (λ ws end _. took_it C _ _ _ _ u _)

  shut-second : Under C.top (back c) → Comes C [] (ask second_end ∷ K) (reading b c) (sign close_bracket p ∷ []) (make make_two ∷ K) (reading b (back c))
  unfolding run feed choose rule_of tallied
  shut-second u = comes (λ ws end _. took_it C _ _ _ _ u _)

module _ {C : Ceiling} {K : Stack} {b : Built} {c : Counts} {k q r s : Position} {x y : Constant} where
  ends-of-part : Under C.top c → Under C.top (back c)
      → Comes C after_term (ask subscript ∷ K) (reading b c) (W.constant x q ∷ sign colon k ∷ W.constant y r ∷ sign close_bracket s ∷ []) (make make_part ∷ K) (reading (keep_word (W.constant y r) (keep_word (W.constant x q) b)) (back c))
  unfolding run feed choose rule_of tallied
  ends-of-part u v = constant-first ⊳ at-colon ⊳ constant-last ⊳ at_last (closing-word v)
    where
      constant-first : Comes C [] (ask subscript ∷ K) (reading b c) (W.constant x q ∷ []) (ask after_constant ∷ ask operand_rest ∷ K) (reading (keep_word (W.constant x q) b) c)
      constant-first = comes (λ ws end _. took_it C _ _ _ _ u _)

      at-colon : Comes C [] (ask after_constant ∷ ask operand_rest ∷ K) (reading (keep_word (W.constant x q) b) c) (sign colon k ∷ []) (keep a_constant ∷ closing close_bracket ∷ make make_part ∷ K) (reading (keep_word (W.constant x q) b) c)
      at-colon = comes (λ ws end _. took_it C _ _ _ _ u _)

      constant-last : Comes C [] (keep a_constant ∷ closing close_bracket ∷ make make_part ∷ K) (reading (keep_word (W.constant x q) b) c) (W.constant y r ∷ []) (closing close_bracket ∷ make make_part ∷ K) (reading (keep_word (W.constant y r) (keep_word (W.constant x q) b)) c)
      constant-last = comes (λ ws end _. refl)

  ends-of-word-part : Under C.top c → Under C.top (back c)
      → Comes C after_term (ask second ∷ K) (reading b c) (W.constant x q ∷ sign colon k ∷ W.constant y r ∷ sign close_bracket s ∷ []) (make make_word_part ∷ K) (reading (keep_word (W.constant y r) (keep_word (W.constant x q) b)) (back c))
  unfolding run feed choose rule_of tallied
  ends-of-word-part u v = constant-first ⊳ at-colon ⊳ constant-last ⊳ at_last (closing-word v)
    where
      constant-first : Comes C [] (ask second ∷ K) (reading b c) (W.constant x q ∷ []) (ask after_second_constant ∷ ask second_rest ∷ K) (reading (keep_word (W.constant x q) b) c)
      constant-first = comes (λ ws end _. took_it C _ _ _ _ u _)

      at-colon : Comes C [] (ask after_second_constant ∷ ask second_rest ∷ K) (reading (keep_word (W.constant x q) b) c) (sign colon k ∷ []) (keep a_constant ∷ closing close_bracket ∷ make make_word_part ∷ K) (reading (keep_word (W.constant x q) b) c)
      at-colon = comes (λ ws end _. took_it C _ _ _ _ u _)

      constant-last : Comes C [] (keep a_constant ∷ closing close_bracket ∷ make make_word_part ∷ K) (reading (keep_word (W.constant x q) b) c) (W.constant y r ∷ []) (closing close_bracket ∷ make make_word_part ∷ K) (reading (keep_word (W.constant y r) (keep_word (W.constant x q) b)) c)
      constant-last = comes (λ ws end _. refl)

module _ {C : Ceiling} {h : ℕ} {n : Name} {p : Position} where
  pub ref-whole : Subscripted C n p h [] (expression (whole n p))
  unfolding rule_of counted_expression word_no
  ref-whole = record {
    opens = tt;
    one_more = refl;
    takes = λ K b c room. record { counts = c; grown = omega arith; comes = leaving (enter open_bracket (ask subscript ∷ []) ∷ []) make_whole refl (λ _. refl) };
  }

  pub ref-one : {o : Position} (s : Position) {us : List Word} {e : Expression} → Boolean C h us (expression e) → Subscripted C n p (suc h) (sign open_bracket o ∷ (us ++ sign close_bracket s ∷ [])) (expression (one n p e))
  unfolding rule_of counted_expression word_no expression_no among
  ref-one s {us} {e} x = record {
    opens = refl;
    one_more = refl;
    takes = λ K b c room.
        arriving (first-subscript x K (keep_word (W.name n p) b) (deeper c) (omega arith)) λ d g m.
        record {
          counts = back d;
          grown = omega arith;
          comes = opened (omega arith) ⊳ before m (λ ws _. refl) (ends-in {ks = open_bracket ∷ []} (at_last (shut-first (omega arith))) (λ ws f. f) (leaving (enter open_bracket (ask second ∷ []) ∷ []) make_one refl (λ _. refl)));
        };
  }

  pub ref-part : {o s k q r : Position} {x y : Constant}
      → Subscripted C n p (suc h) (sign open_bracket o ∷ W.constant x q ∷ sign colon k ∷ W.constant y r ∷ sign close_bracket s ∷ []) (expression (part n p (pair_of x q y r)))
  unfolding counted_expression word_no
  ref-part = record {
    opens = refl;
    one_more = refl;
    takes = λ K b c room. record {
      counts = back (deeper c);
      grown = omega arith;
      comes = opened (omega arith) ⊳ then-move (ends-of-part (omega arith) (omega arith)) (building (λ _. refl));
    };
  }

  pub ref-two : {o : Position} (s k : Position) {us vs : List Word} {e f : Expression} → Boolean C h us (expression e) → Boolean C h vs (expression f)
      → Subscripted C n p (suc h) (sign open_bracket o ∷ (us ++ sign comma k ∷ (vs ++ sign close_bracket s ∷ []))) (expression (two n p e f))
  unfolding counted_expression word_no expression_no among
  ref-two s k {e = e} x y = record {
    opens = refl;
    one_more = refl;
    takes = λ K b c room.
        arriving (first-subscript x K (keep_word (W.name n p) b) (deeper c) (omega arith)) λ d g m.
        arriving (second-subscript y K (push e (keep_word (W.name n p) b)) d (omega arith)) λ d₁ i l.
        record {
          counts = back d₁;
          grown = omega arith;
          comes = opened (omega arith) ⊳ before m (λ ws _. refl) (at-comma (omega arith) ⊳ before l (λ ws _. refl) (then-move (at_last (shut-second (omega arith))) (building (λ _. refl))));
        };
  }

  pub ref-two-apart : {o : Position} (s k l : Position) {us vs : List Word} {e f : Expression} → Boolean C h us (expression e) → Boolean C h vs (expression f)
      → Subscripted C n p (suc h) (sign open_bracket o ∷ (us ++ (between_subscripts k l ++ (vs ++ sign close_bracket s ∷ [])))) (expression (two n p e f))
  unfolding counted_expression word_no expression_no among
  ref-two-apart s k l {e = e} x y = record {
    opens = refl;
    one_more = refl;
    takes = λ K b c room.
        arriving (first-subscript x K (keep_word (W.name n p) b) (deeper c) (omega arith)) λ d g m.
        arriving (second-subscript y K (push e (keep_word (W.name n p) b)) (deeper (back d)) (omega arith)) λ d₁ i j.
        record {
          counts = back d₁;
          grown = omega arith;
          comes = opened (omega arith) ⊳ before m (λ ws _. refl) (shut-first (omega arith) ⊳ opened-again (omega arith) ⊳ before j (λ ws _. refl) (then-move (at_last (shut-second (omega arith))) (building (λ _. refl))));
        };
  }

  pub ref-word-part : {o q r : Position} (s k l : Position) {us : List Word} {e : Expression} {x y : Constant} → Boolean C h us (expression e)
      → Subscripted C n p (suc h) (sign open_bracket o ∷ (us ++ sign comma k ∷ W.constant x q ∷ sign colon l ∷ W.constant y r ∷ sign close_bracket s ∷ []))
      (expression (word_part n p e (pair_of x q y r)))
  unfolding counted_expression word_no expression_no among
  ref-word-part s k l z = record {
    opens = refl;
    one_more = refl;
    takes = λ K b c room.
        arriving (first-subscript z K (keep_word (W.name n p) b) (deeper c) (omega arith)) λ d g m.
        record {
          counts = back d;
          grown = omega arith;
          comes = opened (omega arith) ⊳ before m (λ ws _. refl) (at-comma (omega arith) ⊳ then-move (ends-of-word-part (omega arith) (omega arith)) (building (λ _. refl)));
        };
  }

  pub ref-word-part-apart : {o q r : Position} (s k l m : Position) {us : List Word} {e : Expression} {x y : Constant} → Boolean C h us (expression e)
      → Subscripted C n p (suc h) (sign open_bracket o ∷ (us ++ (between_subscripts k m ++ (W.constant x q ∷ sign colon l ∷ W.constant y r ∷ sign close_bracket s ∷ []))))
      (expression (word_part n p e (pair_of x q y r)))
  unfolding counted_expression word_no expression_no among
  ref-word-part-apart s k l m z = record {
    opens = refl;
    one_more = refl;
    takes = λ K b c room.
        arriving (first-subscript z K (keep_word (W.name n p) b) (deeper c) (omega arith)) λ d g j.
        record {
          counts = back (deeper (back d));
          grown = omega arith;
          comes = opened (omega arith) ⊳ before j (λ ws _. refl) (shut-first (omega arith) ⊳ opened-again (omega arith) ⊳ then-move (ends-of-word-part (omega arith) (omega arith)) (building (λ _. refl)));
        };
  }
