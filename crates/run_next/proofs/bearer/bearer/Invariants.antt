use mathlib.Core.Path.{◌≡◌}
use Prim.Native.Nat.{◌-◌}
use Rattle.language.specs.Description.{Description}
use Rattle.language.specs.Step as S
use Rattle.value_limbs.specs.Limbs.{number}
use Rattle.run_next.specs.Values.{Valued}
use Rattle.run_next.proofs.bearer.bearer.Given as goal

abbrev pub invariant-loop-n : goal.invariant-loop-n
invariant-loop-n l = (d : Description) → Valued d l.expressions l.section → S.bearer d (l.n-end - l.n) l.n (number l.x.limbs) ≡ S.bearer d l.n-end 0 (number l.x.limbs)
