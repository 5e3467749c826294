-- What adding a state leaves.
use Rattle.std.specs.Prelude.{List, [], ◌∷◌, ◌++◌, ◌≡◌, ℕ, ◌+◌, length}
use Rattle.std.proofs.Math.Option.{Option}
use Rattle.language.specs.Description.{Run}
use Rattle.language.specs.Encode.{state_record}
use Rattle.language.specs.Tree.{Name}
use Rattle.language.specs.Words.{Position}
use Rattle.judge_records.specs.Noted.{state_beside_bytes}
use Rattle.parse_array.specs.Layout.{work_size}
use Rattle.parse_tables.specs.declared.Table.TheVariants as T
use Rattle.parse_tables.specs.Rows.{Kept, rows}

pub record StateAdded (n : ℕ) (at : Position) (size : ℕ) (value : Option ℕ) (value_at : Position) (actions : Run) (w w' : List ℕ) : Type 0 where
  pub whole : length w ≡ work_size
  pub still : length w' ≡ work_size
  pub records : (name : Name) → length name ≡ size → rows T.States (n + 1) w' ≡ rows T.States n w ++ state_record (record { name = name; value = value; actions = actions })
  pub places : rows T.StatePlaces (n + 1) w' ≡ rows T.StatePlaces n w ++ state_beside_bytes (record { at = at; value = value_at })
  pub kept : Kept (T.States ∷ T.StatePlaces ∷ []) w w'
