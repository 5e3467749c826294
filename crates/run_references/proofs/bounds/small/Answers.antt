use mathlib.Core.Path.{◌≡◌, sym, ◌∙◌}
use Prim.Native.Nat.{◌%◌, ◌^◌, ◌≤◌, ◌<◌}
use native.Mathlib.Nat.{mod-eq_of_lt}
use native.Mathlib.Omega.{arith}
use borrow.Author.Tests.{ltb-false, ltb-true}
use Rattle.value_limbs.specs.Limbs.{number}
use Rattle.run_references.proofs.bounds.small.Goals as goal

pub returns-then-n-lt-BEYOND_64 : goal.returns-then-n-lt-BEYOND_64
returns-then-n-lt-BEYOND_64 c =
    let x = number c.args.v.limbs in
    let h : x < 2 ^ 64 = ltb-true x (2 ^ 64) (sym c.fits64.ensures ∙ c.if-fits64.true) in
    let e : x % 2 ^ 64 ≡ x = mod-eq_of_lt h in
    omega arith

pub returns-else-fits64 : goal.returns-else-fits64
returns-else-fits64 c =
    let x = number c.args.v.limbs in
    let h : 2 ^ 64 ≤ x = ltb-false x (2 ^ 64) (sym c.fits64.ensures ∙ c.if-fits64.false) in
    omega arith
