use mathlib.Core.Path.{sym, ap, ◌∙◌}
use Prim.Native.Nat.{ℕ}
use native.Mathlib.Omega.{arith}
use Rattle.language.specs.Value.{made, value}
use Rattle.value_limbs.specs.Limbs.{number}
use Rattle.value_operators.proofs.Fits.{fit-allowed, fit_refused, allowed-le, none_means}
use Rattle.value_operators.proofs.fitting.fit.Goals as goal

pub overflow_cast-result : goal.overflow_cast-result
overflow_cast-result c =
    omega (arith, allowed-le c.args.length (sym c.allowed.ensures ∙ c.if-not-allowed.false))

pub returns : goal.returns
returns c =
    let a = c.args in
    record { meaning = ap (λ (n : ℕ). made (value a.length n)) c.low.ensures ∙ sym (fit-allowed a.length (number a.limbs) (sym c.allowed.ensures ∙ c.if-not-allowed.false)) }

pub returns-then-not-allowed : goal.returns-then-not-allowed
returns-then-not-allowed c =
    let a = c.args in
    none_means (fit_refused a.length (number a.limbs) (sym c.allowed.ensures ∙ c.if-not-allowed.true))
