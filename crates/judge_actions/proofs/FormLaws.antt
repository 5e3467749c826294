-- The kinds of actions that a test leaves.
use mathlib.Core.List.{List, [], ◌∷◌}
use mathlib.Core.Path.{◌≡◌, refl}
use Prim.Native.Nat.{ℕ}
use denote.Enum.Declared.{tag_of}
use types.Run.{OneOf, miss}
use Rattle.image_records.specs.contracts.actions.Action.{the_type}
use Rattle.image_records.specs.declared.actions.Action.{Action}
use Rattle.image_records.specs.declared.actions.Action.TheVariants as N
use Rattle.std.specs.Prelude.{None}
use Rattle.judge_actions.specs.Listed.{arm_holds, branch_of}

abbrev no-conditionals : List ℕ
no-conditionals = 0 ∷ 1 ∷ 2 ∷ 3 ∷ 4 ∷ 5 ∷ 6 ∷ 9 ∷ 10 ∷ []

pub not-conditional : (r : Action) → OneOf no-conditionals (tag_of the_type r) → None ≡ branch_of r
not-conditional (N.Store s l r) h = refl
not-conditional (N.StorePair s l n r) h = refl
not-conditional (N.Set l) h = refl
not-conditional (N.Perform o) h = refl
not-conditional (N.Goto s) h = refl
not-conditional (N.Call s) h = refl
not-conditional N.Return h = refl
not-conditional (N.When c x) h = absurd (miss no-conditionals 7 tt h)
not-conditional (N.Choose c n x) h = absurd (miss no-conditionals 8 tt h)
not-conditional (N.Arm x) h = refl
not-conditional N.Broken h = refl

abbrev no-arms : List ℕ
no-arms = 0 ∷ 1 ∷ 2 ∷ 3 ∷ 4 ∷ 5 ∷ 6 ∷ 7 ∷ 8 ∷ 10 ∷ []

pub not-arm : (m : ℕ) (r : Action) → OneOf no-arms (tag_of the_type r) → 0 ≡ arm_holds m r
not-arm m (N.Store s l r) h = refl
not-arm m (N.StorePair s l n r) h = refl
not-arm m (N.Set l) h = refl
not-arm m (N.Perform o) h = refl
not-arm m (N.Goto s) h = refl
not-arm m (N.Call s) h = refl
not-arm m N.Return h = refl
not-arm m (N.When c x) h = refl
not-arm m (N.Choose c n x) h = refl
not-arm m (N.Arm x) h = absurd (miss no-arms 9 tt h)
not-arm m N.Broken h = refl
