-- The machine's words of lists of actions, of conditionals and of their arms.
use mathlib.Core.Bool.{Bool, true, false}
use mathlib.Core.List.{List, [], ◌∷◌, ◌++◌}
use mathlib.Core.Path.{◌≡◌}
use Prim.Native.Nat.{ℕ, suc}
use native.Mathlib.Omega.{arith}
use borrow.Author.Tests.{ne_eqb}
use Rattle.language.specs.declared.refusals.Refusal.TheVariants.{NoContinuation}
use Rattle.parse_step.proofs.Looking.{View, begun, ended, name-ahead, name_word, sign-ahead, view}
use Rattle.parse_step.proofs.TakenWords.{on_taken, taken-on}
use Rattle.parse_step.specs.Course.{Seen, Stack, ahead, behind, kind_no, runs_on}
use Rattle.about_grammar.specs.Following.{among, among_first, among-rest}
use Rattle.language.specs.Building.{Built, keep_word}
use Rattle.language.specs.Declaring.{tree_steps}
use Rattle.language.specs.Kinds.{a_name, call_sign, case_word, comma, do_word, else_word, end_if_word, goto_sign, if_word, return_word, then_word}
use Rattle.language.specs.Machine.{Counts, Parsed, ask, choose, closes, expression, feed, finish, level, make, refused, run, tallied, word}
use Rattle.language.specs.SectionWays.{rule_of}
use Rattle.language.specs.Words as L
use Rattle.language.specs.Words.{fault}
use Rattle.parse_operands.proofs.TermWords.{counts_after}
use Rattle.parse_expressions.specs.Phrases.{choice_word}
use Rattle.text_words.specs.declared.Word.{Word}
use Rattle.text_words.specs.Meaning.{positioned}
use Rattle.parse_actions.specs.Lists.{action_ask, arms_ask, arm_stack, branch_stack, else_stack, more_ask, name_ask, own_stack, rest_ask, sign_of}

-- What is still to come behind the condition.
abbrev pub condition_stack : Bool → Bool → Stack
condition_stack q false = word then_word level ∷ branch_stack q false
condition_stack q true = make tree_steps.begin_arms ∷ word do_word level ∷ branch_stack q true

module _ (text : List ℕ) (w : Word) (z : Seen text w) (b : Built) (c : Counts) where
  abbrev on : Stack → Parsed Built
  on K = runs_on text K (ahead text w) b c

  abbrev at : L.Position
  at = positioned w.at

  abbrev k : ℕ
  k = kind_no w.kind

  -- ---- Lists.

  pub comma-comes : k ≡ comma → (q : Bool) (K : Stack) → on (ask (more_ask q) ∷ K) ≡ on_taken text w (ask (action_ask q) ∷ ask (more_ask q) ∷ K) b c
  unfolding runs_on run feed choose rule_of tallied
  comma-comes e false K = rw (sign-ahead text w comma e (omega arith)) (taken-on text at _ (behind text w) _ _)
  comma-comes e true K = rw (sign-ahead text w comma e (omega arith)) (taken-on text at _ (behind text w) _ _)

  pub no-comma : (k ≡ comma → ⊥) → (q : Bool) (K : Stack) → on (ask (more_ask q) ∷ K) ≡ on K
  unfolding runs_on run feed finish choose rule_of
  no-comma n q K = go q (view text w z)
    where
      go : (q : Bool) → View text w → on (ask (more_ask q) ∷ K) ≡ on K
      go false (ended x y e) = rw x
      go false (begun v x e y) = rw (x, e, ne_eqb k comma n)
      go true (ended x y e) = rw x
      go true (begun v x e y) = rw (x, e, ne_eqb k comma n)

  -- ---- Arms.

  pub do-comes : k ≡ do_word → (q : Bool) (K : Stack) → on (ask (arms_ask q) ∷ K) ≡ on_taken text w (arm_stack q ++ K) b c
  unfolding runs_on run feed choose rule_of tallied
  do-comes e false K = rw (sign-ahead text w do_word e (omega arith)) (taken-on text at _ (behind text w) _ _)
  do-comes e true K = rw (sign-ahead text w do_word e (omega arith)) (taken-on text at _ (behind text w) _ _)

  pub no-do : (k ≡ do_word → ⊥) → (q : Bool) (K : Stack) → on (ask (arms_ask q) ∷ K) ≡ on K
  unfolding runs_on run feed finish choose rule_of
  no-do n q K = go q (view text w z)
    where
      go : (q : Bool) → View text w → on (ask (arms_ask q) ∷ K) ≡ on K
      go false (ended x y e) = rw x
      go false (begun v x e y) = rw (x, e, ne_eqb k do_word n)
      go true (ended x y e) = rw x
      go true (begun v x e y) = rw (x, e, ne_eqb k do_word n)

  -- ---- Conditionals.

  pub condition-comes : (case : Bool) → k ≡ choice_word case → (q : Bool) (K : Stack)
      → on (ask (action_ask q) ∷ K) ≡ on_taken text w (ask expression ∷ (condition_stack q case ++ K)) (keep_word (sign_of case w) b) (counts_after c (suc c.counted) (suc c.nesting))
  unfolding runs_on run feed choose rule_of tallied
  condition-comes false e false K = rw (sign-ahead text w if_word e (omega arith)) (taken-on text at _ (behind text w) _ _)
  condition-comes false e true K = rw (sign-ahead text w if_word e (omega arith)) (taken-on text at _ (behind text w) _ _)
  condition-comes true e false K = rw (sign-ahead text w case_word e (omega arith)) (taken-on text at _ (behind text w) _ _)
  condition-comes true e true K = rw (sign-ahead text w case_word e (omega arith)) (taken-on text at _ (behind text w) _ _)

  pub end-if-comes : k ≡ end_if_word → (q : Bool) (K : Stack) → on (ask (rest_ask q) ∷ K) ≡ on (word end_if_word closes ∷ make tree_steps.make_when ∷ K)
  unfolding runs_on run feed choose rule_of tallied
  end-if-comes e false K = rw (sign-ahead text w end_if_word e (omega arith))
  end-if-comes e true K = rw (sign-ahead text w end_if_word e (omega arith))

  pub else-comes : (k ≡ end_if_word → ⊥) → (q : Bool) (K : Stack) → on (ask (rest_ask q) ∷ K) ≡ on (word else_word level ∷ (own_stack q ++ (else_stack ++ K)))
  unfolding runs_on run feed finish choose rule_of tallied
  else-comes n q K = go q (view text w z)
    where
      go : (q : Bool) → View text w → on (ask (rest_ask q) ∷ K) ≡ on (word else_word level ∷ (own_stack q ++ (else_stack ++ K)))
      go false (ended x y e) = rw (x, y)
      go false (begun v x e y) = rw (x, e, ne_eqb k end_if_word n)
      go true (ended x y e) = rw (x, y)
      go true (begun v x e y) = rw (x, e, ne_eqb k end_if_word n)

  -- ---- Names, and what begins no action.

  pub name-comes : k ≡ a_name → (q : Bool) (K : Stack) → on (ask (action_ask q) ∷ K) ≡ on_taken text w (ask (name_ask q) ∷ K) (keep_word (name_word text w) b) c
  unfolding runs_on run feed choose rule_of tallied
  name-comes e false K = rw (name-ahead text w z e) (taken-on text at _ (behind text w) _ _)
  name-comes e true K = rw (name-ahead text w z e) (taken-on text at _ (behind text w) _ _)

  pub no-operation : (k ≡ a_name → ⊥) → (k ≡ if_word → ⊥) → (k ≡ case_word → ⊥) → (K : Stack) → on (ask (action_ask false) ∷ K) ≡ refused (fault at NoContinuation)
  unfolding runs_on run feed finish choose rule_of
  no-operation n₁ n₂ n₃ K = go (view text w z)
    where
      go : View text w → on (ask (action_ask false) ∷ K) ≡ refused (fault at NoContinuation)
      go (ended x y e) = rw (x, y)
      go (begun v x e y) = rw (x, e, ne_eqb k a_name n₁, ne_eqb k if_word n₂, ne_eqb k case_word n₃, y)

  pub no-control : (k ≡ a_name → ⊥) → among k (goto_sign ∷ call_sign ∷ return_word ∷ []) ≡ false → (k ≡ if_word → ⊥) → (k ≡ case_word → ⊥) → (K : Stack) → on (ask (action_ask true) ∷ K) ≡ refused (fault at NoContinuation)
  unfolding runs_on run feed finish choose rule_of
  no-control n₁ a n₂ n₃ K = go (view text w z)
    where
      a₁ : among k (call_sign ∷ return_word ∷ []) ≡ false
      a₁ = among-rest k goto_sign (call_sign ∷ return_word ∷ []) a

      go : View text w → on (ask (action_ask true) ∷ K) ≡ refused (fault at NoContinuation)
      go (ended x y e) = rw (x, y)
      go (begun v x e y) =
          rw (x, e, ne_eqb k a_name n₁, among_first k goto_sign (call_sign ∷ return_word ∷ []) a, among_first k call_sign (return_word ∷ []) a₁, among_first k return_word [] (among-rest k call_sign (return_word ∷ []) a₁), ne_eqb k if_word n₂, ne_eqb k case_word n₃, y)
