use mathlib.Core.Path.{◌≡◌}
use Prim.Native.Nat.{◌-◌}
use Rattle.language.specs.Acting as T
use Rattle.language.specs.Description.{Description}
use Rattle.run_actions.specs.Acts.{Actions}
use Rattle.run_actions.proofs.arms.arm_at.Given as goal

abbrev pub invariant-loop : goal.invariant-loop
invariant-loop l = (d : Description) → Actions d l.section → T.arm_at d (l.back - l.counter) l.i l.left ≡ T.arm_at d l.back l.first l.within
