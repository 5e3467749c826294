use mathlib.Core.Path.{◌≡◌}
use Prim.Native.Nat.{◌*◌, ◌/◌, ◌^◌}
use Rattle.value_limbs.specs.Limbs.{number}
use Rattle.value_limbs.proofs.shifts.limbs_down.Given as goal

abbrev pub invariant-loop : goal.invariant-loop
invariant-loop l = number l.a ≡ number l.fn.x / 2 ^ (64 * l.counter)
