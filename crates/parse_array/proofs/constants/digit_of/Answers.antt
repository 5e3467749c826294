use mathlib.Core.Path.{◌≡◌, sym, ap, ◌∙◌}
use Prim.Native.Nat.{ℕ, ◌+◌, ◌*◌, ◌%◌, ◌^◌}
use native.Mathlib.Nat.{mul-add-mod_self_right, mul_assoc}
use lib.ListN.{get_or}
use Rattle.value_limbs.specs.Limbs.{cat, number}
use Rattle.parse_array.proofs.constants.digit_of.Goals as goal

-- The low 48 bits of the lowest limb are those of the whole.
low_digit : (X a : ℕ) → a % 2 ^ 48 ≡ cat X a % 2 ^ 48
low_digit X a = sym (ap (λ (n : ℕ). (n + a) % 2 ^ 48) (sym (mul_assoc X (2 ^ 16) (2 ^ 48))) ∙ mul-add-mod_self_right (X * 2 ^ 16) (2 ^ 48) a)

pub returns : goal.returns
unfolding number
returns c =
    let x = c.right-above.result in
    low_digit (cat (cat (get_or x 3 0) (get_or x 2 0)) (get_or x 1 0)) (get_or x 0 0) ∙ ap (λ (n : ℕ). n % 2 ^ 48) c.right-above.ensures
