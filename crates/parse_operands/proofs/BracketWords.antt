-- The words in brackets: an expression, or the ends of a part.
use mathlib.Core.Bool.{Bool, true, false, cond}
use mathlib.Core.List.{List, ◌∷◌, ◌++◌}
use mathlib.Core.Path.{◌≡◌, refl}
use Prim.Native.Nat.{ℕ, suc}
use native.Mathlib.Omega.{arith}
use borrow.Author.Tests.{ne_eqb}
use lib.ListN.{length}
use Rattle.language.specs.Building.{Built, keep_word, word_no}
use Rattle.language.specs.Declaring.{tree_steps}
use Rattle.language.specs.Kinds.{a_constant, close_bracket, colon, comma}
use Rattle.language.specs.Machine.{Counts, Fed, Parsed, after, after_subscript, ask, choose, closes, expression, feed, finish, keep, make, refused, run, second, second_end, second_option, tallied, within_ceilings, word, wrong}
use Rattle.language.specs.declared.refusals.Refusal.TheVariants.{CeilingPassed}
use Rattle.language.specs.SectionWays.{rule_of}
use Rattle.language.specs.Tree as T
use Rattle.language.specs.Words as L
use Rattle.language.specs.Words.{Constant, Position, fault}
use Rattle.text_words.specs.declared.Word.{Word}
use Rattle.text_words.specs.Meaning.{positioned}
use Rattle.parse_step.specs.Course.{Seen, Stack, ahead, behind, kind_no, runs_on}
use Rattle.parse_step.specs.Says.{pushed}
use Rattle.parse_step.specs.Taken.{constant_word}
use Rattle.parse_step.proofs.Looking.{View, begun, constant-ahead, ended, sign-ahead, view}
use Rattle.parse_step.proofs.TakenWords.{on_taken, taken-on}
use Rattle.parse_levels.specs.Orders.{tails_from}
use Rattle.parse_levels.specs.declared.Level.TheVariants.{Expression}
use Rattle.parse_levels.specs.declared.Rank.TheVariants.{Sum}
use Rattle.parse_operands.specs.Brackets.{bracket_ask, bracket_end, bracket_make, bracket_rest, bracket_waits}
use Rattle.parse_operands.proofs.TermWords.{counts_after}

module _ (text : List ℕ) (w : Word) (z : Seen text w) (b : Built) (c : Counts) where
  abbrev on : Stack → Parsed Built
  on K = runs_on text K (ahead text w) b c

  abbrev at : Position
  at = positioned w.at

  abbrev k : ℕ
  k = kind_no w.kind

  -- ---- An expression.

  pub expression-first : (k ≡ a_constant → ⊥) → (q : Bool) (K : Stack) → on (ask (bracket_ask q) ∷ K) ≡ on (ask expression ∷ ask (bracket_end q) ∷ K)
  unfolding runs_on run feed finish choose rule_of
  expression-first n q K = go q (view text w z)
    where
      go : (q : Bool) → View text w → on (ask (bracket_ask q) ∷ K) ≡ on (ask expression ∷ ask (bracket_end q) ∷ K)
      go false (ended x y j) = rw x
      go false (begun v x j y) = rw (x, j, ne_eqb k a_constant n)
      go true (ended x y j) = rw x
      go true (begun v x j y) = rw (x, j, ne_eqb k a_constant n)

  -- ---- A constant waits for what follows it.

  pub constant-first : k ≡ a_constant → (q : Bool) (K : Stack) → on (ask (bracket_ask q) ∷ K) ≡ on_taken text w (ask (bracket_waits q) ∷ ask (bracket_rest q) ∷ K) (keep_word (constant_word w) b) c
  unfolding runs_on run feed choose rule_of tallied
  constant-first e false K = rw (constant-ahead text w z e) (taken-on text at _ (behind text w) _ _)
  constant-first e true K = rw (constant-ahead text w z e) (taken-on text at _ (behind text w) _ _)

  pub colon-follows : k ≡ colon → (q : Bool) (K : Stack)
      → on (ask (bracket_waits q) ∷ ask (bracket_rest q) ∷ K) ≡ on_taken text w (keep a_constant ∷ word close_bracket closes ∷ make (bracket_make q) ∷ K) b c
  unfolding runs_on run feed choose rule_of tallied
  colon-follows e false K = rw (sign-ahead text w colon e (omega arith)) (taken-on text at _ (behind text w) _ _)
  colon-follows e true K = rw (sign-ahead text w colon e (omega arith)) (taken-on text at _ (behind text w) _ _)

  -- ---- After a subscript.

  pub comma-follows : k ≡ comma → (K : Stack) → on (ask after_subscript ∷ K) ≡ on_taken text w (ask second ∷ K) b c
  unfolding runs_on run feed choose rule_of tallied
  comma-follows e K = rw (sign-ahead text w comma e (omega arith)) (taken-on text at _ (behind text w) _ _)

  pub close_follows : (k ≡ comma → ⊥) → (K : Stack) → on (ask after_subscript ∷ K) ≡ on (word close_bracket closes ∷ ask second_option ∷ K)
  unfolding runs_on run feed finish choose rule_of tallied
  close_follows n K = go (view text w z)
    where
      go : View text w → on (ask after_subscript ∷ K) ≡ on (word close_bracket closes ∷ ask second_option ∷ K)
      go (ended x y j) = rw x
      go (begun v x j y) = rw (x, j, ne_eqb k comma n)

  pub second-closes : (K : Stack) → on (ask second_end ∷ K) ≡ on (word close_bracket closes ∷ make tree_steps.make_two ∷ K)
  unfolding runs_on run feed finish choose rule_of tallied
  second-closes K = go (view text w z)
    where
      go : View text w → on (ask second_end ∷ K) ≡ on (word close_bracket closes ∷ make tree_steps.make_two ∷ K)
      go (ended x y j) = rw x
      go (begun v x j y) = rw x

  -- ---- An expression that began with a constant goes on with any operator.

  pub rest-tails : (q : Bool) (K : Stack) → on (ask (bracket_rest q) ∷ K) ≡ on (tails_from Sum Expression ++ (ask (bracket_end q) ∷ K))
  unfolding runs_on run feed finish choose rule_of tallied tails_from
  rest-tails q K = go q (view text w z)
    where
      go : (q : Bool) → View text w → on (ask (bracket_rest q) ∷ K) ≡ on (tails_from Sum Expression ++ (ask (bracket_end q) ∷ K))
      go false (ended x y j) = rw x
      go false (begun v x j y) = rw x
      go true (ended x y j) = rw x
      go true (begun v x j y) = rw x

-- A constant that is an operand counts when what follows it is no colon.
module _ (text : List ℕ) (w : Word) (z : Seen text w) (a : Constant) (p : Position) (b : Built) (c : Counts) where
  abbrev counted : Counts
  counted = counts_after c (suc c.counted) c.nesting

  abbrev begins-so : Bool → Stack → Type 0
  begins-so q K =
      runs_on text (ask (bracket_waits q) ∷ ask (bracket_rest q) ∷ K) (ahead text w) (keep_word (L.constant a p) b) c
      ≡ cond (within_ceilings counted) (runs_on text (ask (bracket_rest q) ∷ K) (ahead text w) (pushed (T.constant a p) b) counted) (refused (fault p CeilingPassed))

  abbrev done : Fed Built → List L.Word → Parsed Built
  done x vs = after tree_steps within_ceilings (rule_of tree_steps) x (λ M r. run tree_steps within_ceilings (rule_of tree_steps) M vs (length text) r)

  either : (x : Fed Built) (vs : List L.Word) (t : Bool) → done (cond t x (wrong (fault p CeilingPassed))) vs ≡ cond t (done x vs) (refused (fault p CeilingPassed))
  either x vs true = refl
  either x vs false = refl

  by-view : (kind_no w.kind ≡ colon → ⊥) → (q : Bool) (K : Stack) → View text w → begins-so q K
  unfolding runs_on run feed finish choose rule_of word_no
  by-view n false K (ended x y j) = rw x
  by-view n false K (begun v x j y) = rw (x, j, ne_eqb (kind_no w.kind) colon n) (either _ (behind text w) (within_ceilings counted))
  by-view n true K (ended x y j) = rw x
  by-view n true K (begun v x j y) = rw (x, j, ne_eqb (kind_no w.kind) colon n) (either _ (behind text w) (within_ceilings counted))

  pub constant-operand : (kind_no w.kind ≡ colon → ⊥) → (q : Bool) (K : Stack) → begins-so q K
  constant-operand n q K = by-view n q K (view text w z)
