use mathlib.Core.Path.{ap, ap₂, ◌∙◌}
use Prim.Native.Nat.{ℕ, ◌%◌, ◌^◌}
use Rattle.language.specs.Value.{complement, complement_length, difference_number, fit}
use Rattle.value_limbs.specs.Limbs.{number}
use Rattle.value_operators.proofs.Fits.{means-of, fit-complement}
use Rattle.value_operators.proofs.logical.complement.Goals as goal

pub returns : goal.returns
unfolding complement complement_length
returns c =
    let a = c.args in
    let full = c.full in
    let difference = c.difference in
    let complement-length = c.complement_length in
    let fit' = c.fit in
    let x = number a.x.limbs in
    means-of fit'.ensures
    (ap₂ fit complement-length.ensures (difference.ensures.0 ∙ ap (λ (n : ℕ). difference_number 256 n x % 2 ^ 256) full.ensures) ∙ fit-complement a.x.length x)
