-- The machine's words in ranges.
use mathlib.Core.Bool.{false}
use mathlib.Core.List.{List, [], ◌∷◌}
use mathlib.Core.Path.{◌≡◌, refl}
use Prim.Native.Nat.{ℕ}
use native.Mathlib.Omega.{arith}
use borrow.Author.Tests.{ne_eqb}
use Rattle.parse_step.proofs.Looking.{sign-ahead}
use Rattle.parse_step.proofs.Omitted.{omitted}
use Rattle.parse_step.proofs.TakenWords.{on_taken, taken-on}
use Rattle.parse_step.specs.declared.State.{State}
use Rattle.parse_step.specs.Course.{Seen, Stack, behind, counts_of, kind_no, runs, runs_on}
use Rattle.about_grammar.specs.Following.{among}
use Rattle.language.specs.Alternatives.{lead}
use Rattle.language.specs.Building.{Built}
use Rattle.language.specs.Declaring.{make_both, make_last}
use Rattle.language.specs.Kinds.{a_constant, colon}
use Rattle.language.specs.Machine.{ask, choose, feed, keep, make, range_rest, run, tallied}
use Rattle.language.specs.SectionWays.{rule_of}
use Rattle.language.specs.Words as L
use Rattle.text_words.specs.declared.Word.{Word}
use Rattle.text_words.specs.Meaning.{positioned}

pub not-among : (k x : ℕ) → (k ≡ x → ⊥) → among k (x ∷ []) ≡ false
unfolding among
not-among k x h = rw (ne_eqb k x h)

module _ (text : List ℕ) (w : Word) (K : Stack) (b : Built) (s : State) where
  -- A colon, and the last bound behind it.
  pub range-colon : kind_no w.kind ≡ colon → runs text (ask range_rest ∷ K) w b s ≡ on_taken text w (keep a_constant ∷ make make_both ∷ K) b (counts_of s)
  unfolding runs_on run feed choose rule_of tallied
  range-colon e = rw (sign-ahead text w colon e (omega arith)) (taken-on text (positioned w.at) (keep a_constant ∷ make make_both ∷ K) (behind text w) b (counts_of s))

  -- No colon: the bound that was kept is the last.
  pub range_last : (d : Built) → ((p : L.Position) → make_last p b ≡ d) → Seen text w → (kind_no w.kind ≡ colon → ⊥) → runs text (ask range_rest ∷ K) w b s ≡ runs text K w d s
  unfolding rule_of
  range_last d h z n = omitted text w z range_rest (lead colon (keep a_constant ∷ make make_both ∷ []) ∷ []) make_last refl (not-among (kind_no w.kind) colon n) K b d (counts_of s) h
