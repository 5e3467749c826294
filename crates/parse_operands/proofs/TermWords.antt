-- The words with which a term begins, and what may follow a name.
use mathlib.Core.List.{List, [], ◌∷◌, ◌++◌}
use mathlib.Core.Path.{◌≡◌, refl}
use Prim.Native.Nat.{ℕ, suc}
use native.Mathlib.Omega.{arith}
use borrow.Author.Tests.{ne_eqb}
use Rattle.language.specs.declared.refusals.Refusal.TheVariants.{NoContinuation}
use Rattle.parse_step.proofs.Omitted.{omitted}
use Rattle.about_grammar.specs.Following.{among}
use Rattle.language.specs.Building.{Built, expression_no, keep_word, word_no}
use Rattle.language.specs.Declaring.{tree_steps}
use Rattle.language.specs.Kinds.{a_constant, a_name, case_word, close_paren, do_word, else_word, end_case_word, end_if_word, if_word, open_bracket, open_paren, then_word}
use Rattle.language.specs.Machine.{Counts, Parsed, ask, choose, closes, expression, feed, finish, level, make, more_arms, refused, run, second, second_option, subscript, subscripts, tallied, term, word}
use Rattle.language.specs.SectionWays.{rule_of}
use Rattle.language.specs.Tree as T
use Rattle.language.specs.Tree.{Expression}
use Rattle.language.specs.Words as L
use Rattle.language.specs.Words.{fault}
use Rattle.text_words.specs.declared.Word.{Word}
use Rattle.text_words.specs.Meaning.{positioned}
use Rattle.parse_step.specs.Course.{Seen, Stack, ahead, behind, kind_no, runs_on}
use Rattle.parse_step.specs.Says.{pushed}
use Rattle.parse_step.specs.Taken.{constant_word}
use Rattle.parse_step.proofs.Looking.{View, begun, constant-ahead, ended, name-ahead, name_word, sign-ahead, view}
use Rattle.parse_step.proofs.TakenWords.{on_taken, taken-on}

abbrev pub counts_after : Counts → ℕ → ℕ → Counts
counts_after c counted nesting = record { facilities = c.facilities; operations = c.operations; states = c.states; counted = counted; nesting = nesting }

module _ (text : List ℕ) (w : Word) (z : Seen text w) (b : Built) (c : Counts) where
  abbrev on : Stack → Parsed Built
  on K = runs_on text K (ahead text w) b c

  abbrev at : L.Position
  at = positioned w.at

  abbrev k : ℕ
  k = kind_no w.kind

  pub constant-term : k ≡ a_constant → (K : Stack) → on (ask term ∷ K) ≡ on_taken text w (make tree_steps.make_constant ∷ K) (keep_word (constant_word w) b) (counts_after c (suc c.counted) c.nesting)
  unfolding runs_on run feed choose rule_of tallied
  constant-term e K = rw (constant-ahead text w z e) (taken-on text at _ (behind text w) _ _)

  pub name-term : k ≡ a_name → (K : Stack) → on (ask term ∷ K) ≡ on_taken text w (ask subscripts ∷ K) (keep_word (name_word text w) b) (counts_after c (suc c.counted) c.nesting)
  unfolding runs_on run feed choose rule_of tallied
  name-term e K = rw (name-ahead text w z e) (taken-on text at _ (behind text w) _ _)

  pub group-term : k ≡ open_paren → (K : Stack) → on (ask term ∷ K) ≡ on_taken text w (ask expression ∷ word close_paren closes ∷ K) b (counts_after c c.counted (suc c.nesting))
  unfolding runs_on run feed choose rule_of tallied
  group-term e K = rw (sign-ahead text w open_paren e (omega arith)) (taken-on text at _ (behind text w) _ _)

  -- What comes behind IF and CASE.
  abbrev pub if_stack : Stack
  if_stack =
      ask expression ∷ word then_word level ∷ ask expression ∷ make tree_steps.make_first_arm ∷ word else_word level ∷ ask expression ∷ make tree_steps.make_next_arm ∷ word end_if_word closes
      ∷ make tree_steps.make_choice ∷ []

  abbrev pub case_stack : Stack
  case_stack =
      ask expression ∷ word do_word level ∷ ask expression ∷ make tree_steps.make_first_arm ∷ word do_word level ∷ ask expression ∷ make tree_steps.make_next_arm ∷ ask more_arms ∷ word end_case_word closes
      ∷ make tree_steps.make_choice ∷ []

  pub if-term : k ≡ if_word → (K : Stack) → on (ask term ∷ K) ≡ on_taken text w (if_stack ++ K) (keep_word (L.sign if_word at) b) (counts_after c (suc c.counted) (suc c.nesting))
  unfolding runs_on run feed choose rule_of tallied
  if-term e K = rw (sign-ahead text w if_word e (omega arith)) (taken-on text at _ (behind text w) _ _)

  pub case-term : k ≡ case_word → (K : Stack) → on (ask term ∷ K) ≡ on_taken text w (case_stack ++ K) (keep_word (L.sign case_word at) b) (counts_after c (suc c.counted) (suc c.nesting))
  unfolding runs_on run feed choose rule_of tallied
  case-term e K = rw (sign-ahead text w case_word e (omega arith)) (taken-on text at _ (behind text w) _ _)

  pub no-term : (k ≡ a_constant → ⊥) → (k ≡ a_name → ⊥) → (k ≡ open_paren → ⊥) → (k ≡ if_word → ⊥) → (k ≡ case_word → ⊥) → (K : Stack) → on (ask term ∷ K) ≡ refused (fault at NoContinuation)
  unfolding runs_on run feed finish choose rule_of
  no-term n₁ n₂ n₃ n₄ n₅ K = go (view text w z)
    where
      go : View text w → on (ask term ∷ K) ≡ refused (fault at NoContinuation)
      go (ended x y q) = rw (x, y)
      go (begun v x q y) = rw (x, q, ne_eqb k a_constant n₁, ne_eqb k a_name n₂, ne_eqb k open_paren n₃, ne_eqb k if_word n₄, ne_eqb k case_word n₅, y)

  -- ---- More arms.

  pub more-taken : k ≡ do_word → (K : Stack) → on (ask more_arms ∷ K) ≡ on (word do_word level ∷ ask expression ∷ make tree_steps.make_next_arm ∷ ask more_arms ∷ K)
  unfolding runs_on run feed choose rule_of tallied
  more-taken e K = rw (sign-ahead text w do_word e (omega arith))

  pub no_more : (k ≡ do_word → ⊥) → (K : Stack) → on (ask more_arms ∷ K) ≡ on K
  unfolding rule_of among
  no_more n K = omitted text w z more_arms _ _ refl (rw (ne_eqb k do_word n)) K b b c (λ p. refl)

-- ---- After a name.

module _ (text : List ℕ) (w : Word) (z : Seen text w) (c : Counts) where
  pub no-subscript : (kind_no w.kind ≡ open_bracket → ⊥) → (n : List ℕ) (p : L.Position) (b : Built) (K : Stack)
      → runs_on text (ask subscripts ∷ K) (ahead text w) (keep_word (L.name n p) b) c ≡ runs_on text K (ahead text w) (pushed (T.whole n p) b) c
  unfolding rule_of among word_no
  no-subscript d n p b K = omitted text w z subscripts _ tree_steps.make_whole refl (rw (ne_eqb (kind_no w.kind) open_bracket d)) K (keep_word (L.name n p) b) (pushed (T.whole n p) b) c (λ q. refl)

  pub subscript-opens : kind_no w.kind ≡ open_bracket → (b : Built) (K : Stack) → runs_on text (ask subscripts ∷ K) (ahead text w) b c ≡ on_taken text w (ask subscript ∷ K) b (counts_after c c.counted (suc c.nesting))
  unfolding runs_on run feed choose rule_of tallied
  subscript-opens e b K = rw (sign-ahead text w open_bracket e (omega arith)) (taken-on text (positioned w.at) _ (behind text w) _ _)

  pub no_second : (kind_no w.kind ≡ open_bracket → ⊥) → (n : List ℕ) (p : L.Position) (e : Expression) (b : Built) (K : Stack)
      → runs_on text (ask second_option ∷ K) (ahead text w) (pushed e (keep_word (L.name n p) b)) c ≡ runs_on text K (ahead text w) (pushed (T.one n p e) b) c
  unfolding rule_of among word_no expression_no
  no_second d n p e b K = omitted text w z second_option _ tree_steps.make_one refl (rw (ne_eqb (kind_no w.kind) open_bracket d)) K (pushed e (keep_word (L.name n p) b)) (pushed (T.one n p e) b) c (λ q. refl)

  pub second-opens : kind_no w.kind ≡ open_bracket → (b : Built) (K : Stack) → runs_on text (ask second_option ∷ K) (ahead text w) b c ≡ on_taken text w (ask second ∷ K) b (counts_after c c.counted (suc c.nesting))
  unfolding runs_on run feed choose rule_of tallied
  second-opens e b K = rw (sign-ahead text w open_bracket e (omega arith)) (taken-on text (positioned w.at) _ (behind text w) _ _)
