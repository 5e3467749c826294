use mathlib.Core.Path.{ap, ◌∙◌}
use Prim.Native.Nat.{ℕ, ◌+◌, ◌-◌, ◌%◌, ◌^◌}
use native.Mathlib.Nat.{add-mod-mod}
use Rattle.language.specs.Constants.{left_justified}
use Rattle.value_limbs.specs.Limbs.{number}
use Rattle.value_constants.specs.Digits.{left_more}
use Rattle.value_constants.proofs.Digits.{written_of}
use Rattle.value_constants.proofs.left_digit.Goals as goal

pub returns : goal.returns
unfolding left_more
returns c =
    let n = number c.args.x.limbs in
    let k = c.args.k in
    let d = c.args.d in
    written_of
    (c.sum.ensures.0 ∙ ap (λ (m : ℕ). (n + m) % 2 ^ 256) (c.placed.ensures ∙ ap (λ (l : ℕ). (left_justified l k d).number % 2 ^ 256) c.saturating_sub-room.ensures)
    ∙ add-mod-mod n (left_justified (256 - c.args.x.bits) k d).number (2 ^ 256))
    c.more_bits.ensures
