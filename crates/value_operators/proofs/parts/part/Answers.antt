use mathlib.Core.Path.{ap, ◌∙◌}
use Prim.Native.Nat.{ℕ, ◌/◌, ◌^◌}
use Rattle.language.specs.Value.{part, part_length}
use Rattle.value_limbs.specs.Limbs.{number}
use Rattle.value_operators.proofs.Fits.{means-fit}
use Rattle.value_operators.proofs.parts.part.Goals as goal

pub returns : goal.returns
unfolding part part_length
returns c =
    let a = c.args in
    let minus = c.saturating_sub-below in
    let part_length_call = c.part_length in
    let right = c.right in
    let fit = c.fit in
    means-fit fit.ensures part_length_call.ensures (right.ensures ∙ ap (λ (k : ℕ). number a.x.limbs / 2 ^ k) minus.ensures)
