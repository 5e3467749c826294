-- The machine's tale of declarations and operations is what the grammar counts.
use Rattle.std.specs.Prelude.{true, false, ◌≡◌, ℕ, suc}
use mathlib.Core.List.{List, [], ◌∷◌, ◌++◌, append_assoc}
use Rattle.std.proofs.Common.{◌∙◌, ap, sym}
use Rattle.std.proofs.Math.Path.{refl}
use Rattle.language.specs.Alternatives.{after_step, closing, enter, kept, lead, plain_word}
use Rattle.language.specs.Building.{begin_list}
use Rattle.language.specs.Declaring.{make_both, make_computed, make_input, make_last, make_memory, make_no_dimension, make_operation, make_plain, make_register, make_row, make_sequencing, make_table, tree_steps}
use Rattle.language.specs.Kinds.{a_constant, close_bracket, close_paren, colon, comma, control_word, equal_sign, hash, input_word, open_bracket, open_paren, operation_word}
use Rattle.language.specs.Machine as M
use Rattle.language.specs.Machine.{Ask, after_memories, after_registers, after_terminals, again, ask, control, dimension_rest, dimensions, dollar_option, facility, function_of, keep, make, operation, operation_action, operation_more, operation_spec, operations_more, opens, range_rest, register_spec, sections, sequencing_spec, memory_spec, state_start, states_more, terminal_dimensions, terminal_function, terminal_rest, terminal_spec, word}
use Rattle.language.specs.Notions.{AtMostOne, ends_section, in_operation}
use Rattle.language.specs.SectionWays.{rule_of}
use Rattle.language.specs.Tree as Tr
use Rattle.language.specs.Tree.{Ends, Extent, Name, row, table}
use Rattle.language.specs.Ways.{expression_ways, term_ways}
use Rattle.language.specs.Words as W
use Rattle.language.specs.Words.{Constant, Position, Word, sign}
use Rattle.about_grammar.specs.Counting.{Mark, one, plain}
use Rattle.about_grammar.specs.Courses.{Stack}
use Rattle.about_grammar.specs.Declared.{ending-kinds, next_of, word_of}
use Rattle.about_grammar.specs.Following.{after_or, among, follows-within, within}
use Rattle.about_grammar.specs.Reaching.{Shelf, after_spec, memories, more_of, registers, spec_of, terminals}
use Rattle.about_grammar.specs.Stacks.{plain_ways}
use Rattle.about_grammar.specs.Taking.{Heads, not_boolean}
use Rattle.about_grammar.specs.Tale.{Goes, ◌⊳◌, asking, at_last, before, begins-later, building, eat, ends-in, goes, leaving, pick, respelt, starts-as, tale, then-move, then-words, waits_for}
use Rattle.about_grammar.specs.Telling.{Boolean, Marks, Tells, at, by, closing-word, whole-expression}
use Rattle.about_grammar.specs.TellingActions.{Acting, list_done, more-tail}
use Rattle.about_grammar.specs.Terms.{heads-follow}

-- ---- Bounds and dimensions.

abbrev pub Ranged : List Word → Marks → Type 0
Ranged us f = Tells (keep a_constant ∷ ask range_rest ∷ []) [] (colon ∷ []) us f

pub range-both : (c d : Constant) (p q r : Position) → Ranged (W.constant c p ∷ sign colon q ∷ W.constant d r ∷ []) (λ n ms. plain n ∷ plain n ∷ plain n ∷ ms)
unfolding tale eat pick waits_for rule_of
range-both c d p q r = by (λ K n. then-move (eats K n) building)
  where
    eats : (K : Stack) (n : ℕ) → Goes (colon ∷ []) (keep a_constant ∷ ask range_rest ∷ K) n (W.constant c p ∷ sign colon q ∷ W.constant d r ∷ []) (λ ms. plain n ∷ plain n ∷ plain n ∷ ms) (make make_both ∷ K) n
    eats K n = goes (λ ws _. refl)

pub range_last : (d : Constant) (p : Position) → Ranged (W.constant d p ∷ []) (λ n ms. plain n ∷ ms)
unfolding tale eat pick waits_for rule_of
range_last d p = by (λ K n. ends-in (eats K n) (λ ws h. h) (leaving (lead colon (keep a_constant ∷ make make_both ∷ []) ∷ []) make_last refl))
  where
    eats : (K : Stack) (n : ℕ) → Goes (colon ∷ []) (keep a_constant ∷ ask range_rest ∷ K) n (W.constant d p ∷ []) (λ ms. plain n ∷ ms) (ask range_rest ∷ K) n
    eats K n = goes (λ ws _. refl)

pub record Dimensioned (x : Extent) (us : List Word) (f : Marks) : Type 0 where
  pub takes : Tells (ask dimensions ∷ []) [] (open_bracket ∷ []) us f
  pub plainly : Tells (ask terminal_dimensions ∷ []) [] (open_bracket ∷ equal_sign ∷ []) us f
  pub with-function : AtMostOne x → (q : Position) (K : Stack) (n : ℕ) → Goes [] (ask terminal_dimensions ∷ K) n (us ++ sign equal_sign q ∷ []) (λ ms. f n (plain n ∷ ms)) (ask function_of ∷ K) n

pub no-dimension : Dimensioned Tr.single [] (λ n ms. ms)
unfolding tale eat pick waits_for rule_of
no-dimension = record {
  takes = by (λ K n. leaving (enter open_bracket (keep a_constant ∷ ask range_rest ∷ ask dimension_rest ∷ []) ∷ []) make_no_dimension refl);
  plainly = by (λ K n. leaving (enter open_bracket (keep a_constant ∷ ask range_rest ∷ ask terminal_rest ∷ []) ∷ after_step make_no_dimension [] (kept equal_sign (ask function_of ∷ [])) ∷ []) (λ q z. make_plain q (make_no_dimension q z)) refl);
  with-function = λ _ q K n. goes (λ ws _. refl);
}

module _ {K : Stack} {n : ℕ} {p : Position} where
  open-dimensions : Goes [] (ask dimensions ∷ K) n (sign open_bracket p ∷ []) (λ ms. plain (suc n) ∷ ms) (keep a_constant ∷ ask range_rest ∷ ask dimension_rest ∷ K) (suc n)
  unfolding tale eat pick waits_for rule_of
  open-dimensions = goes (λ ws _. refl)

  open-terminal : Goes [] (ask terminal_dimensions ∷ K) n (sign open_bracket p ∷ []) (λ ms. plain (suc n) ∷ ms) (keep a_constant ∷ ask range_rest ∷ ask terminal_rest ∷ K) (suc n)
  unfolding tale eat pick waits_for rule_of
  open-terminal = goes (λ ws _. refl)

  shut_row : Goes [] (ask dimension_rest ∷ K) (suc n) (sign close_bracket p ∷ []) (λ ms. plain n ∷ ms) (make make_row ∷ K) n
  unfolding tale eat pick waits_for rule_of
  shut_row = goes (λ ws _. refl)

  shut-terminal-row : Goes [] (ask terminal_rest ∷ K) (suc n) (sign close_bracket p ∷ []) (λ ms. plain n ∷ ms) (make make_row ∷ ask terminal_function ∷ K) n
  unfolding tale eat pick waits_for rule_of
  shut-terminal-row = goes (λ ws _. refl)

  next-dimension : Goes [] (ask dimension_rest ∷ K) n (sign comma p ∷ []) (λ ms. plain n ∷ ms) (keep a_constant ∷ ask range_rest ∷ closing close_bracket ∷ make make_table ∷ K) n
  unfolding tale eat pick waits_for rule_of
  next-dimension = goes (λ ws _. refl)

  next-terminal-dimension : Goes [] (ask terminal_rest ∷ K) n (sign comma p ∷ []) (λ ms. plain n ∷ ms) (keep a_constant ∷ ask range_rest ∷ closing close_bracket ∷ make make_table ∷ make make_plain ∷ K) n
  unfolding tale eat pick waits_for rule_of
  next-terminal-dimension = goes (λ ws _. refl)

  equal_word : Goes [] (ask terminal_function ∷ K) n (sign equal_sign p ∷ []) (λ ms. plain n ∷ ms) (ask function_of ∷ K) n
  unfolding tale eat pick waits_for rule_of
  equal_word = goes (λ ws _. refl)

pub one-dimension : {us : List Word} {f : Marks} (p q : Position) (x : Ends) → Ranged us f → Dimensioned (row x) (sign open_bracket p ∷ (us ++ sign close_bracket q ∷ [])) (λ n ms. plain (suc n) ∷ f (suc n) (plain n ∷ ms))
unfolding rule_of among within
one-dimension {us} {f} p q x z = record {
  takes = by (λ K n. open-dimensions ⊳ before (at z (ask dimension_rest ∷ K) (suc n)) (λ ws _. refl) (then-move (at_last shut_row) building));
  plainly = by (λ K n.
      open-terminal ⊳ before (at z (ask terminal_rest ∷ K) (suc n)) (λ ws _. refl)
      (ends-in {ks = equal_sign ∷ []} (then-move (at_last shut-terminal-row) building) (λ ws h. follows-within (equal_sign ∷ []) (open_bracket ∷ equal_sign ∷ []) refl ws h)
      (asking (λ ws h. follows-within (equal_sign ∷ []) (open_bracket ∷ equal_sign ∷ []) refl ws h) (leaving (kept equal_sign (ask function_of ∷ []) ∷ []) make_plain refl))));
  with-function = λ _ o K n.
      respelt (ap (λ (l : List Word). sign open_bracket p ∷ l) (sym (append_assoc us (sign close_bracket q ∷ []) (sign equal_sign o ∷ []))))
      (open-terminal ⊳ before (at z (ask terminal_rest ∷ K) (suc n)) (λ ws _. refl) (then-move shut-terminal-row building ⊳ equal_word));
}

pub two-dimensions : {us vs : List Word} {f g : Marks} (p q r : Position) (x y : Ends) → Ranged us f → Ranged vs g
    → Dimensioned (table x y) (sign open_bracket p ∷ (us ++ sign comma q ∷ (vs ++ sign close_bracket r ∷ []))) (λ n ms. plain (suc n) ∷ f (suc n) (plain (suc n) ∷ g (suc n) (plain n ∷ ms)))
unfolding among
two-dimensions p q r x y z w = record {
  takes = by (λ K n. open-dimensions ⊳ before (at z (ask dimension_rest ∷ K) (suc n)) (λ ws _. refl) (next-dimension ⊳ before (at w (closing close_bracket ∷ make make_table ∷ K) (suc n)) (λ ws _. refl) (then-move (at_last closing-word) building)));
  plainly = by (λ K n.
      open-terminal ⊳ before (at z (ask terminal_rest ∷ K) (suc n)) (λ ws _. refl) (next-terminal-dimension ⊳ before (at w (closing close_bracket ∷ make make_table ∷ make make_plain ∷ K) (suc n)) (λ ws _. refl) (then-move (then-move (at_last closing-word) building) building)));
  with-function = λ f o K n. absurd f;
}

-- ---- Facilities.

abbrev pub Specified : Shelf → List Word → Marks → Type 0
Specified x us f = Tells (ask (spec_of x) ∷ []) [] after_spec us f

module _ {K : Stack} {n : ℕ} {x : Name} {p : Position} where
  register-name : Goes [] (ask register_spec ∷ K) n (W.name x p ∷ []) (λ ms. one facility n ∷ ms) (ask dimensions ∷ make make_register ∷ K) n
  unfolding tale eat pick waits_for rule_of
  register-name = goes (λ ws _. refl)

  sequencing-name : Goes [] (ask sequencing_spec ∷ K) n (W.name x p ∷ []) (λ ms. one facility n ∷ ms) (ask dimensions ∷ make make_sequencing ∷ K) n
  unfolding tale eat pick waits_for rule_of
  sequencing-name = goes (λ ws _. refl)

  memory-name : Goes [] (ask memory_spec ∷ K) n (W.name x p ∷ []) (λ ms. one facility n ∷ ms) (ask dimensions ∷ make make_memory ∷ K) n
  unfolding tale eat pick waits_for rule_of
  memory-name = goes (λ ws _. refl)

  terminal-name : Goes [] (ask terminal_spec ∷ K) n (W.name x p ∷ []) (λ ms. one facility n ∷ ms) (ask terminal_dimensions ∷ K) n
  unfolding tale eat pick waits_for rule_of
  terminal-name = goes (λ ws _. refl)

hash-word : {K : Stack} {n : ℕ} {q : Position} → Goes [] (ask register_spec ∷ K) n (sign hash q ∷ []) (λ ms. plain n ∷ ms) (ask sequencing_spec ∷ K) n
unfolding tale eat pick waits_for rule_of
hash-word = goes (λ ws _. refl)

function-begins : (us : List Word) → Heads not_boolean us → {ks : List ℕ} {K : Stack} {n : ℕ} {f : List Mark → List Mark} {L : Stack} {m : ℕ} → Goes ks (ask M.expression ∷ make make_computed ∷ K) n us f L m → Goes ks (ask function_of ∷ K) n us f L m
unfolding rule_of plain_ways waits_for
function-begins [] h x = absurd h
function-begins (w ∷ us) h {K = K} {n} x =
    goes (λ vs g. begins-later function_of M.expression (make make_computed ∷ []) refl (lead input_word (word open_paren opens ∷ plain_word a_constant ∷ plain_word comma ∷ again ∷ closing close_paren ∷ make make_input ∷ []) ∷ []) (expression_ways tree_steps (term_ways tree_steps)) refl refl refl K n w h (us ++ vs) ∙ x.says vs g)

module _ (x : Name) (p : Position) {us : List Word} {f : Marks} {e : Extent} where
  pub a-register : Dimensioned e us f → Specified registers (W.name x p ∷ us) (λ n ms. one facility n ∷ f n ms)
  unfolding within among
  a-register z = by (λ K n. register-name ⊳ then-move (asking (λ ws h. follows-within (open_bracket ∷ []) after_spec refl ws h) (at z.takes (make make_register ∷ K) n)) building)

  pub a-sequencing : (q : Position) → Dimensioned e us f → Specified registers (sign hash q ∷ W.name x p ∷ us) (λ n ms. plain n ∷ one facility n ∷ f n ms)
  unfolding within among
  a-sequencing q z = by (λ K n. hash-word ⊳ sequencing-name ⊳ then-move (asking (λ ws h. follows-within (open_bracket ∷ []) after_spec refl ws h) (at z.takes (make make_sequencing ∷ K) n)) building)

  pub a_memory : Dimensioned e us f → Specified memories (W.name x p ∷ us) (λ n ms. one facility n ∷ f n ms)
  unfolding within among
  a_memory z = by (λ K n. memory-name ⊳ then-move (asking (λ ws h. follows-within (open_bracket ∷ []) after_spec refl ws h) (at z.takes (make make_memory ∷ K) n)) building)

  pub a-terminal : Dimensioned e us f → Specified terminals (W.name x p ∷ us) (λ n ms. one facility n ∷ f n ms)
  unfolding within among
  a-terminal z = by (λ K n. terminal-name ⊳ asking (λ ws h. follows-within (open_bracket ∷ equal_sign ∷ []) after_spec refl ws h) (at z.plainly K n))

  pub a-computed : (q : Position) {vs : List Word} {g : Marks} → AtMostOne e → Heads not_boolean vs → Dimensioned e us f → Boolean vs g → Specified terminals (W.name x p ∷ (us ++ sign equal_sign q ∷ vs)) (λ n ms. one facility n ∷ f n (plain n ∷ g n ms))
  unfolding within among
  a-computed q {vs} a hs z y =
      by (λ K n. terminal-name ⊳ respelt (append_assoc us (sign equal_sign q ∷ []) vs) (then-words (z.with-function a q K n) (then-move (asking (λ ws h. follows-within after_or after_spec refl ws h) (function-begins vs hs (at (whole-expression y) (make make_computed ∷ K) n))) building)))

  pub an-input : (q r s t u v w : Position) (c : Constant) → AtMostOne e → Dimensioned e us f
      → Specified terminals (W.name x p ∷ (us ++ sign equal_sign q ∷ sign input_word r ∷ sign open_paren s ∷ W.constant c t ∷ sign comma u ∷ W.name x v ∷ sign close_paren w ∷ []))
      (λ n ms. one facility n ∷ f n (plain n ∷ plain n ∷ plain (suc n) ∷ plain (suc n) ∷ plain (suc n) ∷ plain (suc n) ∷ plain n ∷ ms))
  unfolding tale eat pick waits_for rule_of
  an-input q r s t u v w c a z =
      by (λ K n. terminal-name ⊳ respelt (append_assoc us (sign equal_sign q ∷ []) (sign input_word r ∷ sign open_paren s ∷ W.constant c t ∷ sign comma u ∷ W.name x v ∷ sign close_paren w ∷ []))
      (then-words (z.with-function a q K n) (then-move (eats K n) building)))
    where
      eats : (K : Stack) (n : ℕ) → Goes after_spec (ask function_of ∷ K) n (sign input_word r ∷ sign open_paren s ∷ W.constant c t ∷ sign comma u ∷ W.name x v ∷ sign close_paren w ∷ []) (λ ms. plain n ∷ plain (suc n) ∷ plain (suc n) ∷ plain (suc n) ∷ plain (suc n) ∷ plain n ∷ ms) (make make_input ∷ K) n
      eats K n = goes (λ ws _. refl)

-- ---- Lists, endings and sections.

abbrev pub Listed : Shelf → List Word → Marks → Type 0
Listed x us f = Tells (ask (spec_of x) ∷ ask (more_of x) ∷ []) (ask (more_of x) ∷ []) after_spec us f

comma-at : (x : Shelf) {K : Stack} {n : ℕ} {p : Position} → Goes [] (ask (more_of x) ∷ K) n (sign comma p ∷ []) (λ ms. plain n ∷ ms) (ask (spec_of x) ∷ ask (more_of x) ∷ K) n
unfolding tale eat pick waits_for rule_of
comma-at registers = goes (λ ws _. refl)
comma-at memories = goes (λ ws _. refl)
comma-at terminals = goes (λ ws _. refl)

pub specs-one : (x : Shelf) {us : List Word} {f : Marks} → Specified x us f → Listed x us f
specs-one x z = by (λ K n. at z (ask (more_of x) ∷ K) n)

pub specs-more : (x : Shelf) {us vs : List Word} {f g : Marks} (p : Position) → Specified x us f → Listed x vs g → Listed x (us ++ sign comma p ∷ vs) (λ n ms. f n (plain n ∷ g n ms))
unfolding among
specs-more x p z y = by (λ K n. before (at z (ask (more_of x) ∷ K) n) (λ ws _. refl) (comma-at x ⊳ at y K n))

pub record Ending (a : Ask) (M : Stack) : Type 0 where
  pub ends : (k : ℕ) → ends_section k ≡ true → (K : Stack) (n : ℕ) (p : Position) → Goes [] (ask a ∷ K) n (sign k p ∷ []) (λ ms. plain n ∷ ms) (M ++ K) n

pub record Ended (us : List Word) (f : Marks) : Type 0 where
  pub heads : Heads after_spec us
  pub takes : (a : Ask) (M : Stack) → Ending a M → (K : Stack) (n : ℕ) → Goes [] (ask a ∷ K) n us (f n) (M ++ K) n

pub an-ending : (k : ℕ) (p : Position) → ends_section k ≡ true → Ended (sign k p ∷ []) (λ n ms. plain n ∷ ms)
unfolding among
an-ending k p e = record { heads = ending-kinds (λ k. among k after_spec ≡ false) refl refl k e; takes = λ a M x K n. x.ends k e K n p }

specs-end : (x : Shelf) → Ending (more_of x) []
unfolding tale eat pick waits_for rule_of
specs-end registers = record { ends = λ k e K n p. ending-kinds (λ k. Goes [] (ask (more_of registers) ∷ K) n (sign k p ∷ []) (λ ms. plain n ∷ ms) K n) (goes (λ ws _. refl)) (goes (λ ws _. refl)) k e }
specs-end memories = record { ends = λ k e K n p. ending-kinds (λ k. Goes [] (ask (more_of memories) ∷ K) n (sign k p ∷ []) (λ ms. plain n ∷ ms) K n) (goes (λ ws _. refl)) (goes (λ ws _. refl)) k e }
specs-end terminals = record { ends = λ k e K n p. ending-kinds (λ k. Goes [] (ask (more_of terminals) ∷ K) n (sign k p ∷ []) (λ ms. plain n ∷ ms) K n) (goes (λ ws _. refl)) (goes (λ ws _. refl)) k e }

pub record Leads (x : Shelf) (a : Ask) : Type 0 where
  pub to : (K : Stack) (n : ℕ) (p : Position) → Goes [] (ask a ∷ K) n (sign (word_of x) p ∷ []) (λ ms. plain n ∷ ms) (ask (spec_of x) ∷ ask (more_of x) ∷ ask (next_of x) ∷ K) n

pub record Sectioned (x : Shelf) (us : List Word) (f : Marks) : Type 0 where
  pub takes : (a : Ask) → Leads x a → (K : Stack) (n : ℕ) → Goes [] (ask a ∷ K) n us (f n) (ask (next_of x) ∷ K) n

pub a-section : (x : Shelf) {us vs : List Word} {f g : Marks} (p : Position) → Listed x us f → Ended vs g → Sectioned x (sign (word_of x) p ∷ (us ++ vs)) (λ n ms. plain n ∷ f n (g n ms))
a-section x {vs = vs} p z e = record { takes = λ a l K n. l.to K n p ⊳ before (at z (ask (next_of x) ∷ K) n) (λ ws _. heads-follow after_spec vs ws e.heads) (e.takes (more_of x) [] (specs-end x) (ask (next_of x) ∷ K) n) }

pub record BeforeControl (a : Ask) : Type 0 where
  pub to : (K : Stack) (n : ℕ) (p : Position) → Goes [] (ask a ∷ K) n (sign control_word p ∷ []) (λ ms. plain n ∷ ms) (ask state_start ∷ ask states_more ∷ ask dollar_option ∷ K) n

pub record BeforeOperations (a : Ask) : Type 0 where
  pub to : (K : Stack) (n : ℕ) (p : Position) → Goes [] (ask a ∷ K) n (sign operation_word p ∷ []) (λ ms. plain n ∷ ms) (ask operation_spec ∷ ask operations_more ∷ K) n
  pub control : BeforeControl a

pub record BeforeTerminals (a : Ask) : Type 0 where
  pub to : Leads terminals a
  pub operations : BeforeOperations a

after-registers : BeforeTerminals after_registers
unfolding tale eat pick waits_for rule_of
after-registers = record { to = record { to = λ K n p. goes (λ ws _. refl) }; operations = record { to = λ K n p. goes (λ ws _. refl); control = record { to = λ K n p. goes (λ ws _. refl) } } }

after-memories : BeforeTerminals after_memories
unfolding tale eat pick waits_for rule_of
after-memories = record { to = record { to = λ K n p. goes (λ ws _. refl) }; operations = record { to = λ K n p. goes (λ ws _. refl); control = record { to = λ K n p. goes (λ ws _. refl) } } }

after-terminals : BeforeOperations after_terminals
unfolding tale eat pick waits_for rule_of
after-terminals = record { to = λ K n p. goes (λ ws _. refl); control = record { to = λ K n p. goes (λ ws _. refl) } }

leads-first : (x : Shelf) → Leads x sections
unfolding tale eat pick waits_for rule_of
leads-first registers = record { to = λ K n p. goes (λ ws _. refl) }
leads-first memories = record { to = λ K n p. goes (λ ws _. refl) }
leads-first terminals = record { to = λ K n p. goes (λ ws _. refl) }

leads-memories : Leads memories after_registers
unfolding tale eat pick waits_for rule_of
leads-memories = record { to = λ K n p. goes (λ ws _. refl) }

pub record Optional (from : Ask) (Ready : Ask → Type 0) (us : List Word) (f : Marks) : Type 0 where
  pub next : Ask
  pub ready : Ready next
  pub takes : (K : Stack) (n : ℕ) → Goes [] (ask from ∷ K) n us (f n) (ask next ∷ K) n

pub no-memories : Optional after_registers BeforeTerminals [] (λ n ms. ms)
no-memories = record { next = after_registers; ready = after-registers; takes = λ K n. goes (λ vs _. refl) }

pub some-memories : {us : List Word} {f : Marks} → Sectioned memories us f → Optional after_registers BeforeTerminals us f
some-memories x = record { next = after_memories; ready = after-memories; takes = x.takes after_registers leads-memories }

pub record Terminals (us : List Word) (f : Marks) : Type 0 where
  pub from : (a : Ask) → BeforeTerminals a → Optional a BeforeOperations us f

pub no-terminals : Terminals [] (λ n ms. ms)
no-terminals = record { from = λ a r. record { next = a; ready = r.operations; takes = λ K n. goes (λ vs _. refl) } }

pub some-terminals : {us : List Word} {f : Marks} → Sectioned terminals us f → Terminals us f
some-terminals x = record { from = λ a r. record { next = after_terminals; ready = after-terminals; takes = x.takes a r.to } }

pub record Declares (us : List Word) (f : Marks) : Type 0 where
  pub next : Ask
  pub ready : BeforeOperations next
  pub takes : (K : Stack) (n : ℕ) → Goes [] (ask sections ∷ K) n us (f n) (ask next ∷ K) n

pub with-registers : {us vs ws : List Word} {f g h : Marks} → Sectioned registers us f → Optional after_registers BeforeTerminals vs g → Terminals ws h → Declares (us ++ (vs ++ ws)) (λ n ms. f n (g n (h n ms)))
with-registers {us} {vs} {ws} {f} {g} {h} x y z = go (z.from y.next y.ready)
  where
    go : Optional y.next BeforeOperations ws h → Declares (us ++ (vs ++ ws)) (λ n ms. f n (g n (h n ms)))
    go o = record { next = o.next; ready = o.ready; takes = λ K n. then-words (x.takes sections (leads-first registers) K n) (then-words (y.takes K n) (o.takes K n)) }

pub with-memories : {us vs : List Word} {f g : Marks} → Sectioned memories us f → Terminals vs g → Declares (us ++ vs) (λ n ms. f n (g n ms))
with-memories {us} {vs} {f} {g} x z = go (z.from after_memories after-memories)
  where
    go : Optional after_memories BeforeOperations vs g → Declares (us ++ vs) (λ n ms. f n (g n ms))
    go o = record { next = o.next; ready = o.ready; takes = λ K n. then-words (x.takes sections (leads-first memories) K n) (o.takes K n) }

pub with-terminals : {us : List Word} {f : Marks} → Sectioned terminals us f → Declares us f
with-terminals x = record { next = after_terminals; ready = after-terminals; takes = x.takes sections (leads-first terminals) }

-- ---- Operations.

abbrev pub Operating : List Word → Marks → Type 0
Operating us f = Tells (ask operation_spec ∷ ask operations_more ∷ []) (ask operations_more ∷ []) [] us f

module _ (x : Name) (p q r s : Position) {us : List Word} {f : Marks} (z : Acting in_operation us f) where
  one-operation : (K : Stack) (n : ℕ) → Goes [] (ask operation_spec ∷ K) n (W.name x p ∷ sign equal_sign q ∷ sign open_bracket r ∷ (us ++ sign close_bracket s ∷ [])) (λ ms. one operation n ∷ plain n ∷ plain (suc n) ∷ f (suc n) (plain n ∷ ms)) K n
  unfolding tale eat pick waits_for rule_of among
  one-operation K n =
      then-words {us = W.name x p ∷ sign equal_sign q ∷ sign open_bracket r ∷ []} (eats K n) (starts-as building (before (list_done in_operation (at (z.takes operation_more (more-tail in_operation)) (closing close_bracket ∷ make make_operation ∷ K) (suc n))) (λ ws _. refl) (then-move closing-word building)))
    where
      eats : (K : Stack) (n : ℕ) → Goes [] (ask operation_spec ∷ K) n (W.name x p ∷ sign equal_sign q ∷ sign open_bracket r ∷ []) (λ ms. one operation n ∷ plain n ∷ plain (suc n) ∷ ms) (make begin_list ∷ ask operation_action ∷ ask operation_more ∷ closing close_bracket ∷ make make_operation ∷ K) (suc n)
      eats K n = goes (λ ws _. refl)

  pub operations-one : Operating (W.name x p ∷ sign equal_sign q ∷ sign open_bracket r ∷ (us ++ sign close_bracket s ∷ [])) (λ n ms. one operation n ∷ plain n ∷ plain (suc n) ∷ f (suc n) (plain n ∷ ms))
  operations-one = by (λ K n. one-operation (ask operations_more ∷ K) n)

  pub operations-more : (t : Position) {vs : List Word} {g : Marks} → Operating vs g
      → Operating (W.name x p ∷ sign equal_sign q ∷ sign open_bracket r ∷ (us ++ sign close_bracket s ∷ sign comma t ∷ vs)) (λ n ms. one operation n ∷ plain n ∷ plain (suc n) ∷ f (suc n) (plain n ∷ plain n ∷ g n ms))
  unfolding tale eat pick waits_for rule_of
  operations-more t {vs} y =
      by (λ K n. respelt (ap (λ (l : List Word). W.name x p ∷ sign equal_sign q ∷ sign open_bracket r ∷ l) (append_assoc us (sign close_bracket s ∷ []) (sign comma t ∷ vs))) (then-words (one-operation (ask operations_more ∷ K) n) (eats K n ⊳ at y K n)))
    where
      eats : (K : Stack) (n : ℕ) → Goes [] (ask operations_more ∷ K) n (sign comma t ∷ []) (λ ms. plain n ∷ ms) (ask operation_spec ∷ ask operations_more ∷ K) n
      eats K n = goes (λ ws _. refl)

pub record MayEnd (us : List Word) (f : Marks) : Type 0 where
  pub next : Ask
  pub ready : BeforeControl next
  pub takes : (K : Stack) (n : ℕ) → Goes [] (ask operations_more ∷ K) n us (f n) (ask next ∷ K) n

pub no-ending : MayEnd [] (λ n ms. ms)
unfolding tale eat pick waits_for rule_of
no-ending = record { next = operations_more; ready = record { to = λ K n p. goes (λ ws _. refl) }; takes = λ K n. goes (λ vs _. refl) }

operations-end : Ending operations_more (ask control ∷ [])
unfolding tale eat pick waits_for rule_of
operations-end = record { ends = λ k e K n p. ending-kinds (λ k. Goes [] (ask operations_more ∷ K) n (sign k p ∷ []) (λ ms. plain n ∷ ms) (ask control ∷ K) n) (goes (λ ws _. refl)) (goes (λ ws _. refl)) k e }

pub some-ending : {us : List Word} {f : Marks} → Ended us f → MayEnd us f
unfolding tale eat pick waits_for rule_of
some-ending x = record { next = control; ready = record { to = λ K n p. goes (λ ws _. refl) }; takes = x.takes operations_more (ask control ∷ []) operations-end }

pub record OperationsPart (us : List Word) (f : Marks) : Type 0 where
  pub from : (a : Ask) → BeforeOperations a → Optional a BeforeControl us f

pub no-operations : OperationsPart [] (λ n ms. ms)
no-operations = record { from = λ a r. record { next = a; ready = r.control; takes = λ K n. goes (λ vs _. refl) } }

pub some-operations : {us vs : List Word} {f g : Marks} (p : Position) → Operating us f → MayEnd vs g → OperationsPart (sign operation_word p ∷ (us ++ vs)) (λ n ms. plain n ∷ f n (g n ms))
some-operations p x y = record { from = λ a r. record { next = y.next; ready = y.ready; takes = λ K n. r.to K n p ⊳ then-words (at x K n) (y.takes K n) } }
