use mathlib.Core.Bool.{Bool}
use mathlib.Core.List.{List, [], ◌∷◌}
use mathlib.Core.Path.{◌≡◌, refl, ap, ◌∙◌}
use Prim.Native.Nat.{ℕ}
use lib.Dec.{eqb}
use lib.Pointwise.{pointwise}
use Rattle.std.proofs.Common.{◌&&◌}
use Rattle.language.specs.Scan.{same}
use Rattle.image_records.proofs.bytes.same.Goals as goal

by_places : (s t : List ℕ) → pointwise eqb s t ≡ same s t
unfolding same
by_places [] [] = refl
by_places [] (b ∷ t) = refl
by_places (a ∷ s) [] = refl
by_places (a ∷ s) (b ∷ t) = ap (λ (r : Bool). eqb a b && r) (by_places s t)

pub returns : goal.returns
returns c = c.eq.ensures ∙ by_places c.args.s.now c.args.t.now
