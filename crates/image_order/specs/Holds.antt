-- The description that stands in the bytes of sections, record by record; the names of declarations stand elsewhere.
use Rattle.std.specs.Prelude.{List, ◌≡◌, ℕ, ◌/◌, length}
use Rattle.language.specs.Decode.{action_of, node_of}
use Rattle.language.specs.Description as D
use Rattle.language.specs.Description.{Description, action_at, facility_at, node_at, operation_at, state_at}
use Rattle.language.specs.Value.{Value}
use Rattle.image_sections.specs.Declarations.{facility_in, operation_in, state_in}
use Rattle.language.specs.Encode.{action_size, facility_size, node_size, operation_size, state_size}

pub record Nodes (d : Description) (s : List ℕ) : Type 0 where
  pub count : length d.expressions ≡ length s / node_size
  pub at : (n : ℕ) → node_at d n ≡ node_of s n

pub record Actions (d : Description) (s : List ℕ) : Type 0 where
  pub count : length d.actions ≡ length s / action_size
  pub at : (n : ℕ) → action_at d n ≡ action_of s n

pub record Facilities (d : Description) (s : List ℕ) : Type 0 where
  pub count : length d.facilities ≡ length s / facility_size
  pub at : (n : ℕ) → facility_at d n ≡ facility_in s n (facility_at d n).name

pub record Operations (d : Description) (s : List ℕ) : Type 0 where
  pub count : length d.operations ≡ length s / operation_size
  pub at : (n : ℕ) → operation_at d n ≡ operation_in s n (operation_at d n).name

pub record States (d : Description) (s : List ℕ) : Type 0 where
  pub count : length d.states ≡ length s / state_size
  pub at : (n : ℕ) → state_at d n ≡ state_in s n (state_at d n).name

-- A constant of l bits ends at record n.
pub record ConstantAt (s : List ℕ) (n l : ℕ) : Type 0 where
  pub is : Value
  pub here : node_of s n ≡ D.constant is
  pub long : is.length ≡ l
