use mathlib.Core.Path.{ap, ◌∙◌}
use Prim.Native.Nat.{ℕ, ◌+◌, ◌*◌, ◌%◌, ◌^◌}
use Rattle.value_limbs.specs.Limbs.{number}
use Rattle.value_constants.specs.Digits.{right_more}
use Rattle.value_constants.proofs.Digits.{written_of}
use Rattle.value_constants.proofs.right_digit.Goals as goal

pub returns : goal.returns
unfolding right_more
returns c =
    written_of (c.joined.ensures ∙ ap (λ (n : ℕ). (number c.args.x.limbs * 2 ^ c.args.k + n) % 2 ^ 256) c.small.ensures) c.more_bits.ensures
