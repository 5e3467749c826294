-- Action records by their kinds, and the arms of a conditional.
use mathlib.Core.List.{List, [], ◌∷◌}
use mathlib.Core.Option.{none, some}
use mathlib.Core.Path.{◌≡◌, refl}
use Prim.Native.Nat.{ℕ, zero, suc, ◌+◌, ◌-◌, ◌≤◌, ◌<◌}
use borrow.Author.Tests.{le-ltb, lt-ltb}
use denote.Enum.Declared.{tag_of}
use types.Run.{OneOf, miss}
use Rattle.language.specs.Acting as T
use Rattle.language.specs.Description.{Description, action_at}
use Rattle.language.specs.Meaning as M
use Rattle.image_records.specs.contracts.actions.Action.{the_type}
use Rattle.image_records.specs.Actions.{meant}
use Rattle.image_records.specs.declared.actions.Action.{Action}
use Rattle.image_records.specs.declared.actions.Action.TheVariants as A
use Rattle.run_actions.specs.Acts.{run_of, simple_done}

abbrev not-simples : List ℕ
not-simples = 3 ∷ 7 ∷ 8 ∷ 9 ∷ 10 ∷ []

module _ {X : Type 0} (S : M.Stores X) (d : Description) (c : T.Doing X) where
  pub not-simple : (r : Action) → OneOf not-simples (tag_of the_type r) → simple_done S d (meant r) c ≡ T.stuck M.wrong_record
  unfolding simple_done
  not-simple (A.Store k l r) o = absurd (miss not-simples 0 tt o)
  not-simple (A.StorePair k l m r) o = absurd (miss not-simples 1 tt o)
  not-simple (A.Set l) o = absurd (miss not-simples 2 tt o)
  not-simple (A.Perform n) o = refl
  not-simple (A.Goto s) o = absurd (miss not-simples 4 tt o)
  not-simple (A.Call s) o = absurd (miss not-simples 5 tt o)
  not-simple A.Return o = absurd (miss not-simples 6 tt o)
  not-simple (A.When e x) o = refl
  not-simple (A.Choose e n x) o = refl
  not-simple (A.Arm x) o = refl
  not-simple A.Broken o = refl

-- ---- Arms.

module _ (d : Description) (i m : ℕ) where
  pub arm-none : (k : ℕ) → T.arm_size (action_at d i) ≡ none → T.arm_at d k i m ≡ none
  unfolding T.arm_at
  arm-none zero e = rw e
  arm-none (suc k) e = rw e

  module _ (x : ℕ) (e : T.arm_size (action_at d i) ≡ some x) where
    pub arm-long : (k : ℕ) → m ≤ x → T.arm_at d k i m ≡ none
    unfolding T.arm_at
    arm-long zero h = rw (e, le-ltb x m h)
    arm-long (suc k) h = rw (e, le-ltb x m h)

    pub arm-here : x < m → T.arm_at d 0 i m ≡ some (run_of (i + 1) x)
    unfolding T.arm_at
    arm-here h = rw (e, lt-ltb x m h)

    pub arm-next : (k : ℕ) → x < m → T.arm_at d (suc k) i m ≡ T.arm_at d k (i + 1 + x) (m - (x + 1))
    unfolding T.arm_at
    arm-next k h = rw (e, lt-ltb x m h)
