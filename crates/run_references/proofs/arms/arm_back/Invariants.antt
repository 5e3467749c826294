use mathlib.Core.Path.{◌≡◌}
use Prim.Native.Nat.{◌-◌}
use Rattle.language.specs.Description.{Description}
use Rattle.language.specs.Meaning.{arm_back}
use Rattle.run_references.specs.Described.{Nodes}
use Rattle.run_references.proofs.arms.arm_back.Given as goal

abbrev pub invariant-loop : goal.invariant-loop
invariant-loop l = (d : Description) → Nodes d l.expressions → arm_back d (l.back - l.counter) l.at ≡ arm_back d l.back l.a
