-- State values by the sections of expressions and states.
use Rattle.std.specs.Prelude.{List, ◌≡◌, ℕ, ◌^◌, ◌<◌}
use Rattle.std.proofs.Math.Option.{some}
use Rattle.language.specs.Description.{Description, constant_value, node_at, state_at}
use Rattle.language.specs.Step.{state_number}
use Rattle.language.specs.Tree.{Name}
use Rattle.image_sections.specs.Declarations.{state_in}
use Rattle.run_references.specs.Described.{Nodes}

-- State n of d is the one of the section, under some name.
pub record StateOf (d : Description) (T : List ℕ) (n : ℕ) : Type 0 where
  pub name : Name
  pub is : state_at d n ≡ state_in T n name

-- The sections of expressions and states describe d, a constant's number is one that a value holds, and a state's value is a constant.
pub record Valued (d : Description) (E T : List ℕ) : Type 0 where
  pub nodes : Nodes d E
  pub states : (n : ℕ) → StateOf d T n
  pub fit : (n : ℕ) → (constant_value (node_at d n)).number < 2 ^ 256
  pub constants : (s n : ℕ) → (state_at d s).value ≡ some n → state_number d s ≡ some (constant_value (node_at d n)).number
