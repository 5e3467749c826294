use mathlib.Core.Path.{refl, ap₂, ◌∙◌}
use Prim.Native.Nat.{ℕ, ◌+◌, ◌*◌, ◌/◌, ◌%◌, ◌^◌}
use Rattle.language.specs.Value.{replaced}
use Rattle.value_limbs.specs.Limbs.{number}
use Rattle.value_operators.proofs.Fits.{means-wrap, joined-cut}
use Rattle.value_operators.proofs.parts.replaced.Goals as goal

pub returns : goal.returns
unfolding replaced
returns c =
    let a = c.args in
    let right = c.right in
    let low = c.low in
    let joined = c.joined-above in
    let low2 = c.low-2 in
    let joined2 = c.joined in
    let fit = c.fit in
    let w = number a.x.limbs in
    let v = number a.v.limbs in
    let k = a.low in
    let n = a.c in
    let above = joined.ensures ∙ ap₂ (λ (p q : ℕ). (p * 2 ^ n + q) % 2 ^ 256) right.ensures low.ensures in
    means-wrap (replaced w k n v) fit.ensures refl
    (joined2.ensures ∙ ap₂ (λ (p q : ℕ). (p * 2 ^ k + q) % 2 ^ 256) above low2.ensures ∙ joined-cut (w / 2 ^ (k + n) * 2 ^ n + v % 2 ^ n) (2 ^ k) (w % 2 ^ k) (2 ^ 256))
