use mathlib.Core.Bool.{Bool, false, true, cond}
use mathlib.Core.List.{List, [], ◌∷◌}
use mathlib.Core.Path.{◌≡◌, refl, ◌∙◌}
use Prim.Native.Nat.{ℕ}
use Rattle.std.proofs.Common.{◌&&◌, rules, tests}
use Rattle.std.specs.List.{list_all}
use Rattle.std.proofs.lemmas.Iterator.{YieldsList-from_slice}
use Rattle.std.proofs.lemmas.Iterator.Search.{all_from_yields_List}
use Rattle.language.specs.Canonical.{is_capital, name_parts}
use Rattle.language.specs.Characters.{is_digit}
use Rattle.language.specs.Tests.{both}
use Rattle.image_form.proofs.labels.parts_right.Goals as goal

abbrev part : ℕ → Bool
part b = cond (is_capital b) true (is_digit b)

all_parts : (name : List ℕ) → list_all part name ≡ name_parts name
unfolding name_parts
all_parts [] = refl
all_parts (b ∷ name) = go (part b) (all_parts name)
  where
    go : (x : Bool) → list_all part name ≡ name_parts name → (x && list_all part name) ≡ both x (name_parts name)
    go true e = e
    go false e = refl

pub returns : goal.returns
returns c =
    all_from_yields_List part _ _ _ c.all.ensures.ran (YieldsList-from_slice c.args.name.now cc) (λ x b q k. search (rules, tests)) ∙ all_parts c.args.name.now
