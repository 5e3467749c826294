-- A state's first action: the state begins with the words with which an action begins, and counts besides.
use mathlib.Core.List.{List, ◌∷◌}
use mathlib.Core.Path.{◌≡◌}
use Prim.Native.Nat.{ℕ}
use borrow.Author.Tests.{ne_eqb}
use Rattle.parse_step.proofs.Looking.{View, begun, ended, view}
use Rattle.parse_step.specs.Course.{Seen, Stack, ahead, kind_no, runs_on}
use Rattle.language.specs.Building.{Built, word_no}
use Rattle.language.specs.Declaring.{tree_steps}
use Rattle.language.specs.Kinds.{colon, open_paren}
use Rattle.language.specs.Machine.{Counts, Parsed, ask, choose, feed, finish, first_name, run, state_name}
use Rattle.language.specs.SectionWays.{rule_of}
use Rattle.language.specs.Words as L
use Rattle.text_words.specs.declared.Word.{Word}
use Rattle.text_words.specs.Meaning.{positioned}

module _ (text : List ℕ) (w : Word) (b : Built) (c : Counts) where
  abbrev on : Stack → Parsed Built
  on K = runs_on text K (ahead text w) b c

  abbrev k : ℕ
  k = kind_no w.kind

  abbrev at : L.Position
  at = positioned w.at

  -- A name first, which is no label.
  pub name-acts : Seen text w → (k ≡ colon → ⊥) → (k ≡ open_paren → ⊥) → (K : Stack) → on (ask first_name ∷ K) ≡ runs_on text (ask state_name ∷ K) (ahead text w) (tree_steps.begin_at_name at b) c
  unfolding runs_on run feed finish choose rule_of word_no
  name-acts z n m K = go (view text w z)
    where
      go : View text w → on (ask first_name ∷ K) ≡ runs_on text (ask state_name ∷ K) (ahead text w) (tree_steps.begin_at_name at b) c
      go (ended x y e) = rw x
      go (begun v x e y) = rw (x, e, ne_eqb k colon n, ne_eqb k open_paren m)
