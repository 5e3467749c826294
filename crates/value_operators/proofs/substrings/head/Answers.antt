use mathlib.Core.Path.{ap, ◌∙◌}
use Prim.Native.Nat.{ℕ, ◌/◌, ◌^◌}
use Rattle.language.specs.Value.{head}
use Rattle.value_limbs.specs.Limbs.{number}
use Rattle.value_operators.proofs.Fits.{means-fit}
use Rattle.value_operators.proofs.substrings.head.Goals as goal

pub returns : goal.returns
unfolding head
returns c =
    let a = c.args in
    let minus = c.saturating_sub-below in
    let cut-length = c.cut_length in
    let right = c.right in
    let fit = c.fit in
    means-fit fit.ensures cut-length.ensures (right.ensures ∙ ap (λ (k : ℕ). number a.x.limbs / 2 ^ k) minus.ensures)
