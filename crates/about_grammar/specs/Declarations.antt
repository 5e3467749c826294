-- The machine takes the words of each declaration and of lists of them.
use Rattle.std.specs.Prelude.{true, ◌≡◌, ℕ, suc}
use mathlib.Core.List.{List, [], ◌∷◌, ◌++◌, append_assoc}
use Rattle.std.proofs.Common.{◌∙◌, arith, eq-eqb}
use Rattle.std.proofs.Math.Path.{refl}
use Rattle.language.specs.Alternatives.{closing, lead, plain_word}
use Rattle.language.specs.Building.{Built, expression_no, keep_word, with_extents, word_no}
use Rattle.language.specs.CountedWords.{counted_terminals}
use Rattle.language.specs.Declaring.{make_computed, make_input, make_memory, make_register, make_sequencing, tree_steps}
use Rattle.language.specs.Kinds.{a_constant, close_paren, comma, equal_sign, hash, input_word, open_bracket, open_paren}
use Rattle.language.specs.Machine as M
use Rattle.language.specs.Machine.{Counts, Reading, again, ask, choose, dimensions, facility, feed, function_of, make, memory_spec, more, opens, reading, register_spec, run, sequencing_spec, tallied, terminal_dimensions, terminal_spec, word}
use Rattle.language.specs.Notions as N
use Rattle.language.specs.Notions.{AtMostOne, as_declared}
use Rattle.language.specs.Scan.{same}
use Rattle.language.specs.SectionWays.{rule_of}
use Rattle.language.specs.Tree.{Expression, Extent, Name, computed, from_input, given, input, memory, plain, register, sequencing, unspecified}
use Rattle.language.specs.Ways.{expression_ways, term_ways}
use Rattle.language.specs.Words as W
use Rattle.language.specs.Words.{Constant, Position, Word, sign}
use Rattle.about_grammar.specs.Acting.{back, deeper}
use Rattle.about_grammar.specs.Courses.{Ceiling, Comes, Stack, Under, ◌⊳◌, asking, at_last, comes, respelt, then-move, then-words, took_it}
use Rattle.about_grammar.specs.Dimensions.{Dimensioned}
use Rattle.about_grammar.specs.Following.{after_or, among, follows-within, within}
use Rattle.about_grammar.specs.Levels.{Boolean, whole-expression}
use Rattle.about_grammar.specs.Operations.{plain_word_lem}
use Rattle.about_grammar.specs.Operators.{building}
use Rattle.about_grammar.specs.Reaching.{Specified, after_spec, memories, registers, terminals}
use Rattle.about_grammar.specs.Stacks.{begins-later, plain_ways}
use Rattle.about_grammar.specs.Taking.{Heads, arriving, not_boolean}
use Rattle.about_grammar.specs.Terms.{closing-word}

-- ---- Registers and memories.

module _ {C : Ceiling} {K : Stack} {b : Built} {c : Counts} {n : Name} {p : Position} where
  register-name : Under C.top (more facility c) → Comes C [] (ask register_spec ∷ K) (reading b c) (W.name n p ∷ []) (ask dimensions ∷ make make_register ∷ K) (reading (keep_word (W.name n p) b) (more facility c))
  unfolding run feed choose rule_of tallied
  register-name u = comes (λ ws end _. took_it C _ _ _ _ u _)

  sequencing-name : Under C.top (more facility c) → Comes C [] (ask sequencing_spec ∷ K) (reading b c) (W.name n p ∷ []) (ask dimensions ∷ make make_sequencing ∷ K) (reading (keep_word (W.name n p) b) (more facility c))
  unfolding run feed choose rule_of tallied
  sequencing-name u = comes (λ ws end _. took_it C _ _ _ _ u _)

  memory-name : Under C.top (more facility c) → Comes C [] (ask memory_spec ∷ K) (reading b c) (W.name n p ∷ []) (ask dimensions ∷ make make_memory ∷ K) (reading (keep_word (W.name n p) b) (more facility c))
  unfolding run feed choose rule_of tallied
  memory-name u = comes (λ ws end _. took_it C _ _ _ _ u _)

  terminal-name : Under C.top (more facility c) → Comes C [] (ask terminal_spec ∷ K) (reading b c) (W.name n p ∷ []) (ask terminal_dimensions ∷ K) (reading (keep_word (W.name n p) b) (more facility c))
  unfolding run feed choose rule_of tallied
  terminal-name u = comes (λ ws end _. took_it C _ _ _ _ u _)

hash-word : {C : Ceiling} {K : Stack} {b : Built} {c : Counts} {q : Position} → Under C.top c → Comes C [] (ask register_spec ∷ K) (reading b c) (sign hash q ∷ []) (ask sequencing_spec ∷ K) (reading b c)
unfolding run feed choose rule_of tallied
hash-word {C} u = comes (λ ws end _. took_it C _ _ _ _ u _)

module _ {C : Ceiling} {h : ℕ} {n : Name} {p : Position} {us : List Word} {x : Extent} where
  pub a-register : Dimensioned C h us x → Specified C registers h (W.name n p ∷ us) (as_declared register n p x unspecified)
  unfolding word_no within among
  a-register z = record {
    takes = λ K b c space.
        arriving (z.takes (make make_register ∷ K) (keep_word (W.name n p) b) (more facility c) (omega arith)) λ d g m.
        record { counts = d; gained = omega arith; comes = register-name (omega arith) ⊳ then-move (asking (λ ws f. follows-within (open_bracket ∷ []) after_spec refl ws f) m) (building (λ _. refl)) };
  }

  pub a-sequencing : {q : Position} → Dimensioned C h us x → Specified C registers h (sign hash q ∷ W.name n p ∷ us) (as_declared sequencing n p x unspecified)
  unfolding word_no within among
  a-sequencing z = record {
    takes = λ K b c space.
        arriving (z.takes (make make_sequencing ∷ K) (keep_word (W.name n p) b) (more facility c) (omega arith)) λ d g m.
        record { counts = d; gained = omega arith; comes = hash-word (omega arith) ⊳ sequencing-name (omega arith) ⊳ then-move (asking (λ ws f. follows-within (open_bracket ∷ []) after_spec refl ws f) m) (building (λ _. refl)) };
  }

  pub a_memory : Dimensioned C h us x → Specified C memories h (W.name n p ∷ us) (as_declared memory n p x unspecified)
  unfolding word_no within among
  a_memory z = record {
    takes = λ K b c space.
        arriving (z.takes (make make_memory ∷ K) (keep_word (W.name n p) b) (more facility c) (omega arith)) λ d g m.
        record { counts = d; gained = omega arith; comes = memory-name (omega arith) ⊳ then-move (asking (λ ws f. follows-within (open_bracket ∷ []) after_spec refl ws f) m) (building (λ _. refl)) };
  }

  -- ---- Terminals.

  pub a-terminal : Dimensioned C h us x → Specified C terminals h (W.name n p ∷ us) (as_declared plain n p x unspecified)
  unfolding within among counted_terminals
  a-terminal z = record {
    takes = λ K b c space.
        arriving (z.plainly n p K b (more facility c) (omega arith)) λ d g m.
        record { counts = d; gained = omega arith; comes = terminal-name (omega arith) ⊳ asking (λ ws f. follows-within (open_bracket ∷ equal_sign ∷ []) after_spec refl ws f) m };
  }

-- A terminal's function that is an expression.
function-begins : {C : Ceiling} (us : List Word) → Heads not_boolean us → {ks : List ℕ} {K : Stack} {r : Reading Built} {L : Stack} {q : Reading Built}
    → Comes C ks (ask M.expression ∷ make make_computed ∷ K) r us L q → Comes C ks (ask function_of ∷ K) r us L q
unfolding rule_of plain_ways
function-begins [] f x = absurd f
function-begins {C} (w ∷ us) f {K = K} {r = r} x =
    comes (λ vs end g. begins-later tree_steps C.fits (rule_of tree_steps) function_of M.expression (make make_computed ∷ []) (lead input_word (word open_paren opens ∷ plain_word a_constant ∷ plain_word comma ∷ again ∷ closing close_paren ∷ make make_input ∷ []) ∷ []) (expression_ways tree_steps (term_ways tree_steps)) refl refl refl K r w f (us ++ vs) end
    ∙ x.course vs end g)

-- The declared name once more.
pub same_name : (n : Name) → same n n ≡ true
unfolding same
same_name [] = refl
same_name (a ∷ n) = rw (eq-eqb a a refl, same_name n) refl

module _ {C : Ceiling} {h : ℕ} {n : Name} {p : Position} {us : List Word} {x : Extent} where
  pub a-computed : {q : Position} {vs : List Word} {e : Expression} → AtMostOne x → Dimensioned C h us x → Boolean C h vs (N.expression e)
      → Specified C terminals h (W.name n p ∷ (us ++ sign equal_sign q ∷ vs)) (as_declared computed n p x (given q e))
  unfolding word_no expression_no within among counted_terminals
  a-computed {q} {vs} {e} a z y = record {
    takes = λ K b c space.
        arriving (z.with-function a q K (keep_word (W.name n p) b) (more facility c) (omega arith)) λ d g m.
        arriving ((whole-expression y).takes (make make_computed ∷ K) (keep_word (sign equal_sign q) (with_extents (keep_word (W.name n p) b) (x ∷ b.extents))) d (omega arith)) λ d₁ i l.
        record {
          counts = d₁;
          gained = omega arith;
          comes =
              terminal-name (omega arith) ⊳ respelt (append_assoc us (sign equal_sign q ∷ []) vs)
              (then-words m (then-move (asking (λ ws f. follows-within after_or after_spec refl ws f) (function-begins vs y.heads l)) (building (λ _. refl))));
        };
  }

  pub an-input : (q r s t u v w : Position) (k : Constant) → AtMostOne x → Dimensioned C (suc h) us x
      → Specified C terminals (suc h) (W.name n p ∷ (us ++ sign equal_sign q ∷ sign input_word r ∷ sign open_paren s ∷ W.constant k t ∷ sign comma u ∷ W.name n v ∷ sign close_paren w ∷ [])) (as_declared input n p x from_input)
  unfolding run feed choose rule_of tallied word_no among counted_terminals
  an-input q r s t u v w k a z = record {
    takes = λ K b c space.
        arriving (z.with-function a q K (keep_word (W.name n p) b) (more facility c) (omega arith)) λ d g m.
        record {
          counts = back (deeper d);
          gained = omega arith;
          comes =
              terminal-name (omega arith) ⊳ respelt (append_assoc us (sign equal_sign q ∷ []) (sign input_word r ∷ sign open_paren s ∷ W.constant k t ∷ sign comma u ∷ W.name n v ∷ sign close_paren w ∷ []))
              (then-words m (input-at K (keep_word (sign equal_sign q) (with_extents (keep_word (W.name n p) b) (x ∷ b.extents))) d (omega arith)
              ⊳ paren-at K (keep_word (sign equal_sign q) (with_extents (keep_word (W.name n p) b) (x ∷ b.extents))) d (omega arith)
              ⊳ constant-at K (keep_word (sign equal_sign q) (with_extents (keep_word (W.name n p) b) (x ∷ b.extents))) (deeper d) (omega arith)
              ⊳ plain_word_lem (omega arith)
              ⊳ again-at K (with_extents b (x ∷ b.extents)) (deeper d)
              ⊳ then-move (at_last (closing-word (omega arith))) (building (λ _. refl))));
        };
  }
    where
      input-at : (K : Stack) (b : Built) (c : Counts) → Under C.top c
          → Comes C [] (ask function_of ∷ K) (reading b c) (sign input_word r ∷ []) (word open_paren opens ∷ plain_word a_constant ∷ plain_word comma ∷ again ∷ closing close_paren ∷ make make_input ∷ K) (reading b c)
      input-at K b c y = comes (λ ws end _. took_it C _ _ _ _ y _)

      paren-at : (K : Stack) (b : Built) (c : Counts) → Under C.top (deeper c)
          → Comes C [] (word open_paren opens ∷ plain_word a_constant ∷ plain_word comma ∷ again ∷ closing close_paren ∷ make make_input ∷ K) (reading b c) (sign open_paren s ∷ []) (plain_word a_constant ∷ plain_word comma ∷ again ∷ closing close_paren ∷ make make_input ∷ K) (reading b (deeper c))
      paren-at K b c y = comes (λ ws end _. took_it C _ _ _ _ y _)

      constant-at : (K : Stack) (b : Built) (c : Counts) → Under C.top c
          → Comes C [] (plain_word a_constant ∷ plain_word comma ∷ again ∷ closing close_paren ∷ make make_input ∷ K) (reading b c) (W.constant k t ∷ []) (plain_word comma ∷ again ∷ closing close_paren ∷ make make_input ∷ K) (reading b c)
      constant-at K b c y = comes (λ ws end _. took_it C _ _ _ _ y _)

      again-at : (K : Stack) (b : Built) (c : Counts)
          → Comes C [] (again ∷ closing close_paren ∷ make make_input ∷ K) (reading (keep_word (sign equal_sign q) (keep_word (W.name n p) b)) c) (W.name n v ∷ []) (closing close_paren ∷ make make_input ∷ K) (reading (keep_word (sign equal_sign q) (keep_word (W.name n p) b)) c)
      again-at K b c = comes (λ ws end _. rw (same_name n) refl)
