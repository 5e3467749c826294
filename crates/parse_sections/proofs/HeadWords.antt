-- The machine's words where an operation begins and where operations end.
use mathlib.Core.List.{List, ◌∷◌, ◌++◌}
use mathlib.Core.Path.{◌≡◌}
use Prim.Native.Nat.{ℕ}
use native.Mathlib.Omega.{arith}
use borrow.Author.Tests.{ne_eqb}
use Rattle.language.specs.declared.refusals.Refusal.TheVariants.{NoContinuation}
use Rattle.parse_step.proofs.Looking.{View, begun, ended, name-ahead, sign-ahead, view}
use Rattle.parse_step.proofs.TakenWords.{on_taken, taken-on}
use Rattle.parse_step.specs.declared.State.{State}
use Rattle.parse_step.specs.Course.{Seen, Stack, behind, counts_of, kind_no, runs, runs_on}
use Rattle.parse_facilities.specs.Specs.{named_word}
use Rattle.language.specs.Building.{Built, keep_word}
use Rattle.language.specs.Kinds.{a_name, comma, control_word, end_word, period}
use Rattle.language.specs.Machine.{ask, choose, control, feed, finish, operation_spec, operations_more, refused, run, tallied}
use Rattle.language.specs.SectionWays.{rule_of}
use Rattle.language.specs.Words.{fault}
use Rattle.text_words.specs.declared.Word.{Word}
use Rattle.text_words.specs.Meaning.{positioned}
use Rattle.parse_array.specs.Names.{letters}
use Rattle.parse_sections.specs.Heads.{Ending, at_end, at_period, control_stack, more_state, name_stack}

module _ (text : List ℕ) (w : Word) (K : Stack) (b : Built) (s : State) where
  -- ---- A name is kept, and counts.

  pub name-taken : Seen text w → kind_no w.kind ≡ a_name → runs text (ask operation_spec ∷ K) w b s ≡ on_taken text w (name_stack ++ K) (keep_word (named_word text w) b) (counts_of (more_state s))
  unfolding runs_on run feed choose rule_of tallied letters
  name-taken z e = rw (name-ahead text w z e) (taken-on text (positioned w.at) (name_stack ++ K) (behind text w) (keep_word (named_word text w) b) (counts_of (more_state s)))

  pub name-stuck : Seen text w → (kind_no w.kind ≡ a_name → ⊥) → runs text (ask operation_spec ∷ K) w b s ≡ refused (fault (positioned w.at) NoContinuation)
  unfolding runs_on run feed finish choose rule_of
  name-stuck z n = by-view (view text w z)
    where
      by-view : View text w → runs text (ask operation_spec ∷ K) w b s ≡ refused (fault (positioned w.at) NoContinuation)
      by-view (ended e p q) = rw (e, p)
      by-view (begun v e q p) = rw (e, q, ne_eqb (kind_no w.kind) a_name n, p)

  -- ---- CONTROL.

  pub control-taken : kind_no w.kind ≡ control_word → runs text (ask control ∷ K) w b s ≡ on_taken text w (control_stack ++ K) b (counts_of s)
  unfolding runs_on run feed choose rule_of tallied
  control-taken e = rw (sign-ahead text w control_word e (omega arith)) (taken-on text (positioned w.at) (control_stack ++ K) (behind text w) b (counts_of s))

  pub control-stuck : Seen text w → (kind_no w.kind ≡ control_word → ⊥) → runs text (ask control ∷ K) w b s ≡ refused (fault (positioned w.at) NoContinuation)
  unfolding runs_on run feed finish choose rule_of
  control-stuck z n = by-view (view text w z)
    where
      by-view : View text w → runs text (ask control ∷ K) w b s ≡ refused (fault (positioned w.at) NoContinuation)
      by-view (ended e p q) = rw (e, p)
      by-view (begun v e q p) = rw (e, q, ne_eqb (kind_no w.kind) control_word n, p)

  -- ---- Behind an operation.

  pub comma-taken : kind_no w.kind ≡ comma → runs text (ask operations_more ∷ K) w b s ≡ on_taken text w (ask operation_spec ∷ ask operations_more ∷ K) b (counts_of s)
  unfolding runs_on run feed choose rule_of tallied
  comma-taken e = rw (sign-ahead text w comma e (omega arith)) (taken-on text (positioned w.at) (ask operation_spec ∷ ask operations_more ∷ K) (behind text w) b (counts_of s))

  pub more-control : kind_no w.kind ≡ control_word → runs text (ask operations_more ∷ K) w b s ≡ on_taken text w (control_stack ++ K) b (counts_of s)
  unfolding runs_on run feed choose rule_of tallied
  more-control e = rw (sign-ahead text w control_word e (omega arith)) (taken-on text (positioned w.at) (control_stack ++ K) (behind text w) b (counts_of s))

  pub more-ending : (k : ℕ) → Ending k → kind_no w.kind ≡ k → runs text (ask operations_more ∷ K) w b s ≡ on_taken text w (ask control ∷ K) b (counts_of s)
  unfolding runs_on run feed choose rule_of tallied
  more-ending k at_period e = rw (sign-ahead text w period e (omega arith)) (taken-on text (positioned w.at) (ask control ∷ K) (behind text w) b (counts_of s))
  more-ending k at_end e = rw (sign-ahead text w end_word e (omega arith)) (taken-on text (positioned w.at) (ask control ∷ K) (behind text w) b (counts_of s))

  pub more-stuck : Seen text w → (kind_no w.kind ≡ comma → ⊥) → (kind_no w.kind ≡ control_word → ⊥) → (kind_no w.kind ≡ period → ⊥) → (kind_no w.kind ≡ end_word → ⊥)
      → runs text (ask operations_more ∷ K) w b s ≡ refused (fault (positioned w.at) NoContinuation)
  unfolding runs_on run feed finish choose rule_of
  more-stuck z n c m o = by-view (view text w z)
    where
      by-view : View text w → runs text (ask operations_more ∷ K) w b s ≡ refused (fault (positioned w.at) NoContinuation)
      by-view (ended e p q) = rw (e, p)
      by-view (begun v e q p) = rw (e, q, ne_eqb (kind_no w.kind) comma n, ne_eqb (kind_no w.kind) control_word c, ne_eqb (kind_no w.kind) period m, ne_eqb (kind_no w.kind) end_word o, p)
