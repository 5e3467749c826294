use mathlib.Core.Path.{◌≡◌}
use Prim.Native.Nat.{◌%◌, ◌^◌}
use Rattle.language.specs.Value.{repeated}
use Rattle.value_limbs.specs.Limbs.{number}
use Rattle.value_operators.proofs.substrings.repeated.Given as goal

abbrev pub invariant-loop : goal.invariant-loop
invariant-loop l = number l.r ≡ repeated l.m (number l.x) l.counter % 2 ^ 256
