-- The machine's words where states begin, go on and end.
use mathlib.Core.Bool.{true, false, true≢false}
use mathlib.Core.List.{List, [], ◌∷◌}
use mathlib.Core.Path.{◌≡◌, refl, sym, ap, ◌∙◌}
use Prim.Native.Nat.{ℕ}
use native.Mathlib.Omega.{arith}
use borrow.Author.Tests.{ne_eqb}
use Rattle.language.specs.declared.refusals.Refusal.TheVariants.{NoContinuation}
use Rattle.parse_actions.proofs.Starts.{name-acts}
use Rattle.parse_step.proofs.Looking.{View, begun, ended, name-ahead, sign-ahead, view}
use Rattle.parse_step.proofs.TakenWords.{on_taken, taken-on}
use Rattle.parse_step.specs.declared.Bearing.TheVariants.{Opens}
use Rattle.parse_step.specs.declared.State.{State}
use Rattle.parse_step.specs.Course.{Seen, Stack, ahead, behind, counts_of, kind_no, runs, runs_on}
use Rattle.parse_step.specs.Taken.{after_word}
use Rattle.language.specs.Building.{Built, word_no}
use Rattle.language.specs.Declaring.{tree_steps}
use Rattle.language.specs.Kinds.{a_constant, a_name, close_paren, colon, comma, dollar, end_word, open_paren, period, slash}
use Rattle.language.specs.Machine.{ask, choose, closes, dollar_option, feed, finish, first_name, keep, level, make, parsed, refused, run, state_action, state_body, state_name, state_rest, state_start, states_more, tallied, word}
use Rattle.language.specs.SectionWays.{rule_of}
use Rattle.language.specs.Tree as T
use Rattle.language.specs.Words.{fault}
use Rattle.parse_expressions.specs.Phrases.{after_name}
use Rattle.text_words.specs.declared.WordKind.{WordKind}
use Rattle.text_words.specs.declared.WordKind.TheVariants as K
use Rattle.text_words.specs.declared.Word.{Word}
use Rattle.text_words.specs.Meaning.{is_end, positioned}
use Rattle.parse_states.specs.Begins.{more_states, opened, plain_at, with_list}

module _ (text : List ℕ) (w : Word) (z : Seen text w) (s : State) (M : Stack) (b : Built) where
  abbrev k : ℕ
  k = kind_no w.kind

  -- ---- The first word.

  pub name-starts : k ≡ a_name → runs text (ask state_start ∷ M) w b s ≡ on_taken text w (ask first_name ∷ ask state_rest ∷ M) (after_name w text b) (counts_of (more_states s))
  unfolding runs_on run feed choose rule_of tallied
  name-starts e = rw (name-ahead text w z e) (taken-on text (positioned w.at) _ (behind text w) _ _)

  -- Another word begins the state's list, or it is refused there too.
  pub body-starts : (k ≡ a_name → ⊥) → runs text (ask state_start ∷ M) w b s ≡ runs text (ask state_body ∷ M) w (opened (plain_at (positioned w.at)) b) (more_states s)
  unfolding runs_on run feed finish choose rule_of tallied
  body-starts n = go (view text w z)
    where
      go : View text w → runs text (ask state_start ∷ M) w b s ≡ runs text (ask state_body ∷ M) w (opened (plain_at (positioned w.at)) b) (more_states s)
      go (ended x y q) = rw (x, y)
      go (begun v x q y) = rw (x, q, ne_eqb k a_name n, y)

  -- ---- Behind a name.

  pub label-comes : k ≡ colon → runs text (ask first_name ∷ ask state_rest ∷ M) w b s ≡ on_taken text w (make tree_steps.begin_labelled ∷ ask state_body ∷ M) b (counts_of s)
  unfolding runs_on run feed choose rule_of tallied
  label-comes e = rw (sign-ahead text w colon e (omega arith)) (taken-on text (positioned w.at) _ (behind text w) _ _)

  pub value-comes : k ≡ open_paren → runs text (ask first_name ∷ ask state_rest ∷ M) w b s ≡ on_taken text w (keep a_constant ∷ word close_paren closes ∷ word colon level ∷ make tree_steps.begin_valued ∷ ask state_body ∷ M) b (after_word false Opens s)
  unfolding runs_on run feed choose rule_of tallied
  value-comes e = rw (sign-ahead text w open_paren e (omega arith)) (taken-on text (positioned w.at) _ (behind text w) _ _)

  pub action-comes : (k ≡ colon → ⊥) → (k ≡ open_paren → ⊥) → (name : Word) → runs text (ask first_name ∷ M) w (after_name name text b) s
      ≡ runs text (ask state_name ∷ M) w (after_name name text (with_list T.done (opened (plain_at (positioned name.at)) b))) s
  unfolding word_no
  action-comes n m name = name-acts text w (after_name name text b) (counts_of s) z n m M

  -- ---- The list of a state.

  pub body-ends : k ≡ slash → runs text (ask state_body ∷ M) w b s ≡ on_taken text w (make tree_steps.make_state ∷ M) (with_list T.done b) (counts_of s)
  unfolding runs_on run feed choose rule_of tallied
  body-ends e = rw (sign-ahead text w slash e (omega arith)) (taken-on text (positioned w.at) _ (behind text w) _ _)

  pub body-acts : (k ≡ slash → ⊥) → runs text (ask state_body ∷ M) w b s ≡ runs text (ask state_action ∷ ask state_rest ∷ M) w (with_list T.done b) s
  unfolding runs_on run feed finish choose rule_of tallied
  body-acts n = go (view text w z)
    where
      go : View text w → runs text (ask state_body ∷ M) w b s ≡ runs text (ask state_action ∷ ask state_rest ∷ M) w (with_list T.done b) s
      go (ended x y q) = rw (x, y)
      go (begun v x q y) = rw (x, q, ne_eqb k slash n, y)

  pub rest-comma : k ≡ comma → runs text (ask state_rest ∷ M) w b s ≡ on_taken text w (ask state_action ∷ ask state_rest ∷ M) b (counts_of s)
  unfolding runs_on run feed choose rule_of tallied
  rest-comma e = rw (sign-ahead text w comma e (omega arith)) (taken-on text (positioned w.at) _ (behind text w) _ _)

  -- Where no comma comes, the state ends.
  pub rest-last : (k ≡ comma → ⊥) → runs text (ask state_rest ∷ M) w b s ≡ runs text (word slash level ∷ make tree_steps.make_state ∷ M) w b s
  unfolding runs_on run feed finish choose rule_of tallied
  rest-last n = go (view text w z)
    where
      go : View text w → runs text (ask state_rest ∷ M) w b s ≡ runs text (word slash level ∷ make tree_steps.make_state ∷ M) w b s
      go (ended x y q) = rw x
      go (begun v x q y) = rw (x, q, ne_eqb k comma n)

  -- ---- Behind a state.

  pub another-starts : (k ≡ period → ⊥) → (k ≡ end_word → ⊥) → runs text (ask states_more ∷ M) w b s ≡ runs text (ask state_start ∷ ask states_more ∷ M) w b s
  unfolding runs_on run feed finish choose rule_of tallied
  another-starts n m = go (view text w z)
    where
      go : View text w → runs text (ask states_more ∷ M) w b s ≡ runs text (ask state_start ∷ ask states_more ∷ M) w b s
      go (ended x y q) = rw (x, y)
      go (begun v x q y) = rw (x, q, ne_eqb k period n, ne_eqb k end_word m, y)

  pub period-ends : k ≡ period → runs text (ask states_more ∷ M) w b s ≡ on_taken text w M b (counts_of s)
  unfolding runs_on run feed choose rule_of tallied
  period-ends e = rw (sign-ahead text w period e (omega arith)) (taken-on text (positioned w.at) M (behind text w) _ _)

  pub end-ends : k ≡ end_word → runs text (ask states_more ∷ M) w b s ≡ on_taken text w M b (counts_of s)
  unfolding runs_on run feed choose rule_of tallied
  end-ends e = rw (sign-ahead text w end_word e (omega arith)) (taken-on text (positioned w.at) M (behind text w) _ _)

  -- ---- The end of the text.

  pub dollar-comes : k ≡ dollar → runs text (ask dollar_option ∷ M) w b s ≡ on_taken text w M b (counts_of s)
  unfolding runs_on run feed choose rule_of tallied
  dollar-comes e = rw (sign-ahead text w dollar e (omega arith)) (taken-on text (positioned w.at) M (behind text w) _ _)

  pub no-dollar : (k ≡ dollar → ⊥) → runs text (ask dollar_option ∷ M) w b s ≡ runs text M w b s
  unfolding runs_on run feed finish choose rule_of
  no-dollar n = go (view text w z)
    where
      go : View text w → runs text (ask dollar_option ∷ M) w b s ≡ runs text M w b s
      go (ended x y q) = rw x
      go (begun v x q y) = rw (x, q, ne_eqb k dollar n)

  pub text-ends : is_end w.kind ≡ true → runs text [] w b s ≡ parsed b
  unfolding runs_on run finish ahead
  text-ends e = go w.kind refl
    where
      go : (q : WordKind) → w.kind ≡ q → runs text [] w b s ≡ parsed b
      go K.End d = rw d
      go K.Name d = absurd (true≢false (sym e ∙ ap is_end d))
      go K.Constant d = absurd (true≢false (sym e ∙ ap is_end d))
      go (K.Sign j) d = absurd (true≢false (sym e ∙ ap is_end d))

  pub text-goes-on : is_end w.kind ≡ false → runs text [] w b s ≡ refused (fault (positioned w.at) NoContinuation)
  unfolding runs_on run feed ahead
  text-goes-on e = go w.kind refl
    where
      go : (q : WordKind) → w.kind ≡ q → runs text [] w b s ≡ refused (fault (positioned w.at) NoContinuation)
      go K.End d = absurd (true≢false (sym (ap is_end d) ∙ e))
      go K.Name d = rw d
      go K.Constant d = rw d
      go (K.Sign j) d = rw d
