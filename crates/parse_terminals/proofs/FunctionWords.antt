-- The machine's words in the functions of terminals.
use mathlib.Core.Bool.{true, false}
use mathlib.Core.List.{List, [], ◌∷◌}
use mathlib.Core.Path.{◌≡◌, refl}
use Prim.Native.Nat.{ℕ}
use native.Mathlib.Omega.{arith}
use borrow.Author.Tests.{ne_eqb}
use Rattle.language.specs.declared.refusals.Refusal.TheVariants.{NoContinuation}
use Rattle.parse_step.proofs.Looking.{View, begun, constant-ahead, ended, name-ahead, sign-ahead, view}
use Rattle.parse_step.proofs.Omitted.{omitted}
use Rattle.parse_step.proofs.TakenWords.{on_taken, taken-on}
use Rattle.parse_step.specs.declared.State.{State}
use Rattle.parse_step.specs.Course.{Seen, Stack, behind, counts_of, kind_no, runs, runs_on}
use Rattle.parse_bounds.proofs.RangeWords.{not-among}
use Rattle.language.specs.Alternatives.{closing, kept, plain_word}
use Rattle.language.specs.Building.{Built, keep_word, name_of, word_no}
use Rattle.language.specs.Declaring.{make_computed, make_input, make_plain}
use Rattle.language.specs.Kinds.{a_constant, a_name, close_paren, comma, equal_sign, input_word, open_paren}
use Rattle.language.specs.Machine.{again, ask, choose, expression, feed, finish, function_of, make, opens, refused, run, tallied, terminal_function, word}
use Rattle.language.specs.Scan.{same}
use Rattle.language.specs.SectionWays.{rule_of}
use Rattle.language.specs.Words as L
use Rattle.language.specs.Words.{fault}
use Rattle.parse_operands.specs.References.{letters_of}
use Rattle.text_words.specs.declared.Word.{Word}
use Rattle.text_words.specs.Meaning.{positioned}

-- What comes behind INPUT.
abbrev pub input_stack : Stack → Stack
input_stack K = word open_paren opens ∷ plain_word a_constant ∷ plain_word comma ∷ again ∷ closing close_paren ∷ make make_input ∷ K

module _ (text : List ℕ) (w : Word) (K : Stack) (b : Built) (s : State) where
  -- ---- A function, or none.

  pub equal-taken : kind_no w.kind ≡ equal_sign → runs text (ask terminal_function ∷ K) w b s ≡ on_taken text w (ask function_of ∷ K) (keep_word (L.sign equal_sign (positioned w.at)) b) (counts_of s)
  unfolding runs_on run feed choose rule_of tallied
  equal-taken e = rw (sign-ahead text w equal_sign e (omega arith)) (taken-on text (positioned w.at) (ask function_of ∷ K) (behind text w) (keep_word (L.sign equal_sign (positioned w.at)) b) (counts_of s))

  pub no-function : Seen text w → (kind_no w.kind ≡ equal_sign → ⊥) → (d : Built) → ((p : L.Position) → make_plain p b ≡ d) → runs text (ask terminal_function ∷ K) w b s ≡ runs text K w d s
  unfolding rule_of
  no-function z n d h = omitted text w z terminal_function (kept equal_sign (ask function_of ∷ []) ∷ []) make_plain refl (not-among (kind_no w.kind) equal_sign n) K b d (counts_of s) h

  pub input-taken : kind_no w.kind ≡ input_word → runs text (ask function_of ∷ K) w b s ≡ on_taken text w (input_stack K) b (counts_of s)
  unfolding runs_on run feed choose rule_of tallied
  input-taken e = rw (sign-ahead text w input_word e (omega arith)) (taken-on text (positioned w.at) (input_stack K) (behind text w) b (counts_of s))

  pub expression-first : Seen text w → (kind_no w.kind ≡ input_word → ⊥) → runs text (ask function_of ∷ K) w b s ≡ runs text (ask expression ∷ make make_computed ∷ K) w b s
  unfolding runs_on run feed finish choose rule_of
  expression-first z n = go (view text w z)
    where
      go : View text w → runs text (ask function_of ∷ K) w b s ≡ runs text (ask expression ∷ make make_computed ∷ K) w b s
      go (ended e p q) = rw e
      go (begun v e q p) = rw (e, q, ne_eqb (kind_no w.kind) input_word n)

  -- ---- A constant that is not kept.

  pub constant-taken : Seen text w → kind_no w.kind ≡ a_constant → runs text (plain_word a_constant ∷ K) w b s ≡ on_taken text w K b (counts_of s)
  unfolding runs_on run feed
  constant-taken z e = rw (constant-ahead text w z e) (taken-on text (positioned w.at) K (behind text w) b (counts_of s))

  -- ---- The declared name once more.

  module _ (z : Seen text w) where
    pub name-same : kind_no w.kind ≡ a_name → same (letters_of text w) (name_of (word_no 1 b)) ≡ true → runs text (again ∷ K) w b s ≡ runs_on text K (behind text w) b (counts_of s)
    unfolding runs_on run feed
    name-same e h = rw (name-ahead text w z e, h)

    pub name-different : kind_no w.kind ≡ a_name → same (letters_of text w) (name_of (word_no 1 b)) ≡ false → runs text (again ∷ K) w b s ≡ refused (fault (positioned w.at) NoContinuation)
    unfolding runs_on run feed
    name-different e h = rw (name-ahead text w z e, h)

    pub no_name : (kind_no w.kind ≡ a_name → ⊥) → runs text (again ∷ K) w b s ≡ refused (fault (positioned w.at) NoContinuation)
    unfolding runs_on run feed finish
    no_name n = go (view text w z)
      where
        go : View text w → runs text (again ∷ K) w b s ≡ refused (fault (positioned w.at) NoContinuation)
        go (ended e p q) = rw (e, p)
        go (begun v e q p) = rw (e, q, ne_eqb (kind_no w.kind) a_name n, p)
