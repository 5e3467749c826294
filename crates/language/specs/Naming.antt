-- What a name means (01, "The language taken" and refusal 4): facilities, operations and states share one name space, and a name means its first declaration.
use Rattle.std.specs.Prelude.{cond, List, [], ◌∷◌, ℕ, suc}
use Rattle.std.proofs.Math.Option.{Option, none, some}
use Rattle.language.specs.Description.{Action, Node}
use Rattle.language.specs.Description as D
use Rattle.language.specs.Scan.{same}
use Rattle.language.specs.Tree.{Name}

-- The names known at a place of the text, and which state a name is: a state may be named before it stands.
pub record Scope : Type 0 where
  pub facilities : List Name
  pub operations : List Name
  pub state_named : Name → Option ℕ

pub data Meaning : Type 0 where
  facility operation state : ℕ → Meaning
  unknown : Meaning

-- The number of the first name in a list that is n, from k on.
unfoldable pub number_of : Name → ℕ → List Name → Option ℕ
number_of n k [] = none
number_of n k (m ∷ ms) =
    let later = number_of n (suc k) ms in
    cond (same n m) (some k) later

-- The states by their labels; and where no state is known.
abbrev pub by_labels : List Name → Name → Option ℕ
by_labels labels n = number_of n 0 labels

abbrev pub no_state : Name → Option ℕ
no_state n = none

abbrev pub or_else : Option ℕ → (ℕ → Meaning) → Meaning → Meaning
or_else none f m = m
or_else (some k) f m = f k

unfoldable pub meaning : Scope → Name → Meaning
meaning s n =
    or_else (number_of n 0 s.facilities) facility
    (or_else (number_of n 0 s.operations) operation
    (or_else (s.state_named n) state unknown))

-- A reference to a facility, an operation or a state by name; broken where the name means none.
abbrev pub of_facility : Meaning → (ℕ → Node) → Node
of_facility (facility k) f = f k
of_facility (operation k) f = D.Node.broken
of_facility (state k) f = D.Node.broken
of_facility unknown f = D.Node.broken

abbrev pub of_operation : Meaning → (ℕ → Action) → Action
of_operation (facility k) f = D.Action.broken
of_operation (operation k) f = f k
of_operation (state k) f = D.Action.broken
of_operation unknown f = D.Action.broken

abbrev pub of_state : Meaning → (ℕ → Action) → Action
of_state (facility k) f = D.Action.broken
of_state (operation k) f = D.Action.broken
of_state (state k) f = f k
of_state unknown f = D.Action.broken
