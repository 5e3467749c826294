-- What the code's values and answers mean in the language.
use Rattle.std.specs.Prelude.{Bool, false, cond, Option, None, Some, ◌≡◌, ℕ, leb, ltb}
use Rattle.language.specs.Ceilings.{longest}
use Rattle.language.specs.Value as L
use Rattle.value_limbs.specs.Limbs.{number}
use Rattle.value_operators.specs.declared.Value.{Value}

-- The language's value: the length, and the number of the limbs.
abbrev pub valued : Value → L.Value
valued x = L.value x.length (number x.limbs)

abbrev pub meant : Option Value → L.Made
meant (Some v) = L.made (valued v)
meant None = L.none

-- The answer r means m.
pub record Means (r : Option Value) (m : L.Made) : Type 0 where
  pub meaning : meant r ≡ m

-- A length that a value may have.
unfoldable pub allowed : ℕ → Bool
allowed l = cond (ltb 0 l) (leb l longest) false
