-- What adding an action leaves.
use Rattle.std.specs.Prelude.{Bool, true, false, List, [], ◌∷◌, ◌++◌, ◌≡◌, ℕ, ◌+◌, ◌<◌, ◌≤◌, length}
use Rattle.language.specs.Description.{Action}
use Rattle.language.specs.Encode.{action_bytes}
use Rattle.judge_records.specs.Noted.{place_bytes}
use Rattle.text_words.specs.declared.Position.{Position}
use Rattle.text_words.specs.Meaning.{positioned}
use Rattle.parse_array.specs.Layout.{most_actions, work_size}
use Rattle.parse_tables.specs.declared.Table.TheVariants as T
use Rattle.parse_tables.specs.Rows.{Kept, rows}

-- Where there was room, it stands behind those before it, with the place of its word.
pub record ActionAdded (n : ℕ) (a : Action) (at : Position) (w w' : List ℕ) (b : Bool) : Type 0 where
  pub room : b ≡ true → n < most_actions
  pub records : b ≡ true → rows T.Actions (n + 1) w' ≡ rows T.Actions n w ++ action_bytes a
  pub places : b ≡ true → rows T.ActionPlaces (n + 1) w' ≡ rows T.ActionPlaces n w ++ place_bytes 0 (positioned at)
  pub whole : b ≡ true → length w' ≡ work_size
  pub kept : b ≡ true → Kept (T.Actions ∷ T.ActionPlaces ∷ []) w w'
  pub full : b ≡ false → most_actions ≤ n
