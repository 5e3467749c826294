-- What the look-ahead does not begin is left out, with a step that looks at no place.
use mathlib.Core.Bool.{false}
use mathlib.Core.List.{List, ◌∷◌}
use mathlib.Core.Path.{◌≡◌, sym, subst}
use Prim.Native.Nat.{ℕ}
use lib.ListN.{length}
use Rattle.about_grammar.specs.Following.{Follows, among}
use Rattle.about_grammar.specs.Stacks.{kinds_of, omits}
use Rattle.language.specs.Building.{Built}
use Rattle.language.specs.Declaring.{tree_steps}
use Rattle.language.specs.Machine.{Alternative, Ask, Counts, ask, may, within_ceilings}
use Rattle.language.specs.SectionWays.{rule_of}
use Rattle.language.specs.BuildSteps.{Step}
use Rattle.language.specs.Words as L
use Rattle.text_words.specs.declared.Word.{Word}
use Rattle.parse_step.specs.Course.{Seen, Stack, ahead, kind_no, runs_on}
use Rattle.parse_step.proofs.Looking.{View, begun, ended, view}

pub omitted : (text : List ℕ) (w : Word) → Seen text w → (a : Ask) (ways : List (Alternative Built)) (f : Step Built) → rule_of tree_steps a ≡ record { ways = ways; without = may f }
    → among (kind_no w.kind) (kinds_of ways) ≡ false → (K : Stack) (b d : Built) (c : Counts) → ((p : L.Position) → f p b ≡ d)
    → runs_on text (ask a ∷ K) (ahead text w) b c ≡ runs_on text K (ahead text w) d c
unfolding runs_on
omitted text w z a ways f e n K b d c h = omits tree_steps within_ceilings (rule_of tree_steps) a ways f e K b d c h (ahead text w) (follows (view text w z)) (length text)
  where
    follows : View text w → Follows (kinds_of ways) (ahead text w)
    follows (ended x y q) = subst (Follows (kinds_of ways)) (sym x) tt
    follows (begun v x q y) = subst (Follows (kinds_of ways)) (sym x) (rw q n)
