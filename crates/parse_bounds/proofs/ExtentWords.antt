-- The machine's words in dimensions.
use mathlib.Core.List.{List, [], ◌∷◌, ◌++◌}
use mathlib.Core.Path.{◌≡◌, refl}
use Prim.Native.Nat.{ℕ, suc, ◌-◌}
use native.Mathlib.Omega.{arith}
use borrow.Author.Tests.{ne_eqb}
use Rattle.language.specs.declared.refusals.Refusal.TheVariants.{NoContinuation}
use Rattle.parse_step.proofs.Looking.{View, begun, ended, sign-ahead, view}
use Rattle.parse_step.proofs.Omitted.{omitted}
use Rattle.parse_step.proofs.TakenWords.{on_taken, taken-on}
use Rattle.parse_step.specs.declared.State.{State}
use Rattle.parse_step.specs.Course.{Seen, Stack, behind, counts5, counts_of, kind_no, runs, runs_on}
use Rattle.language.specs.Alternatives.{closing, enter}
use Rattle.language.specs.Building.{Built}
use Rattle.language.specs.Declaring.{make_no_dimension, make_plain, make_row, make_table}
use Rattle.language.specs.Kinds.{a_constant, close_bracket, comma, open_bracket}
use Rattle.language.specs.Machine.{ask, choose, dimensions, feed, finish, keep, make, range_rest, refused, run, tallied, terminal_function}
use Rattle.language.specs.SectionWays.{rule_of}
use Rattle.language.specs.Tree as T
use Rattle.language.specs.Words.{fault}
use Rattle.text_words.specs.declared.Word.{Word}
use Rattle.text_words.specs.Meaning.{positioned}
use Rattle.parse_bounds.proofs.RangeWords.{not-among}
use Rattle.parse_bounds.specs.Extents.{Whose, ask_of, of_other, of_terminal, rest_of, to_come, with_extent}

module _ (text : List ℕ) (w : Word) (K : Stack) (b : Built) (s : State) where
  -- A bracket opens dimensions.
  pub extent-opened : (o : Whose) → kind_no w.kind ≡ open_bracket
      → runs text (ask (ask_of o) ∷ K) w b s ≡ on_taken text w (keep a_constant ∷ ask range_rest ∷ ask (rest_of o) ∷ K) b (counts5 s s.counted (suc s.nesting))
  unfolding runs_on run feed choose rule_of tallied
  extent-opened of_other e = rw (sign-ahead text w open_bracket e (omega arith)) (taken-on text (positioned w.at) (keep a_constant ∷ ask range_rest ∷ ask (rest_of of_other) ∷ K) (behind text w) b (counts5 s s.counted (suc s.nesting)))
  extent-opened of_terminal e = rw (sign-ahead text w open_bracket e (omega arith)) (taken-on text (positioned w.at) (keep a_constant ∷ ask range_rest ∷ ask (rest_of of_terminal) ∷ K) (behind text w) b (counts5 s s.counted (suc s.nesting)))

  -- No bracket, no dimension.
  pub extent-none : (o : Whose) → Seen text w → (kind_no w.kind ≡ open_bracket → ⊥) → runs text (ask (ask_of o) ∷ K) w b s ≡ runs text (to_come o T.single ++ K) w (with_extent T.single b) s
  unfolding runs_on run feed finish choose rule_of
  extent-none of_other z n = omitted text w z dimensions (enter open_bracket (keep a_constant ∷ ask range_rest ∷ ask (rest_of of_other) ∷ []) ∷ []) make_no_dimension refl (not-among (kind_no w.kind) open_bracket n) K b (with_extent T.single b) (counts_of s) (λ p. refl)
  extent-none of_terminal z n = go (view text w z)
    where
      go : View text w → runs text (ask (ask_of of_terminal) ∷ K) w b s ≡ runs text (ask terminal_function ∷ K) w (with_extent T.single b) s
      go (ended e p q) = rw e
      go (begun v e q p) = rw (e, q, ne_eqb (kind_no w.kind) open_bracket n)

  -- The bracket behind one range.
  pub extent-row : (o : Whose) (x : T.Ends) → kind_no w.kind ≡ close_bracket
      → runs text (ask (rest_of o) ∷ K) w b s ≡ on_taken text w (make make_row ∷ (to_come o (T.row x) ++ K)) b (counts5 s s.counted (s.nesting - 1))
  unfolding runs_on run feed choose rule_of tallied
  extent-row of_other x e = rw (sign-ahead text w close_bracket e (omega arith)) (taken-on text (positioned w.at) (make make_row ∷ K) (behind text w) b (counts5 s s.counted (s.nesting - 1)))
  extent-row of_terminal x e = rw (sign-ahead text w close_bracket e (omega arith)) (taken-on text (positioned w.at) (make make_row ∷ ask terminal_function ∷ K) (behind text w) b (counts5 s s.counted (s.nesting - 1)))

  -- A comma between two.
  pub extent-comma : (o : Whose) (x y : T.Ends) → kind_no w.kind ≡ comma
      → runs text (ask (rest_of o) ∷ K) w b s ≡ on_taken text w (keep a_constant ∷ ask range_rest ∷ closing close_bracket ∷ make make_table ∷ (to_come o (T.table x y) ++ K)) b (counts_of s)
  unfolding runs_on run feed choose rule_of tallied
  extent-comma of_other x y e = rw (sign-ahead text w comma e (omega arith)) (taken-on text (positioned w.at) (keep a_constant ∷ ask range_rest ∷ closing close_bracket ∷ make make_table ∷ K) (behind text w) b (counts_of s))
  extent-comma of_terminal x y e = rw (sign-ahead text w comma e (omega arith)) (taken-on text (positioned w.at) (keep a_constant ∷ ask range_rest ∷ closing close_bracket ∷ make make_table ∷ make make_plain ∷ K) (behind text w) b (counts_of s))

  pub extent-stuck : (o : Whose) → Seen text w → (kind_no w.kind ≡ close_bracket → ⊥) → (kind_no w.kind ≡ comma → ⊥) → runs text (ask (rest_of o) ∷ K) w b s ≡ refused (fault (positioned w.at) NoContinuation)
  unfolding runs_on run feed finish choose rule_of
  extent-stuck o z n m = by-view o (view text w z)
    where
      by-view : (o : Whose) → View text w → runs text (ask (rest_of o) ∷ K) w b s ≡ refused (fault (positioned w.at) NoContinuation)
      by-view of_other (ended e p q) = rw (e, p)
      by-view of_other (begun v e q p) = rw (e, q, ne_eqb (kind_no w.kind) close_bracket n, ne_eqb (kind_no w.kind) comma m, p)
      by-view of_terminal (ended e p q) = rw (e, p)
      by-view of_terminal (begun v e q p) = rw (e, q, ne_eqb (kind_no w.kind) close_bracket n, ne_eqb (kind_no w.kind) comma m, p)
