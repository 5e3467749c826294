-- What adding an operation leaves.
use Rattle.std.specs.Prelude.{List, [], ◌∷◌, ◌++◌, ◌≡◌, ℕ, ◌+◌, length}
use Rattle.image_sections.specs.declared.runs.Run.{Run}
use Rattle.image_sections.specs.Declarations.{run_meant}
use Rattle.language.specs.Encode.{operation_record}
use Rattle.language.specs.Tree.{Name}
use Rattle.judge_records.specs.Noted.{place_bytes}
use Rattle.text_words.specs.declared.Position.{Position}
use Rattle.text_words.specs.Meaning.{positioned}
use Rattle.parse_array.specs.Layout.{work_size}
use Rattle.parse_tables.specs.declared.Table.TheVariants as T
use Rattle.parse_tables.specs.Names.{name_row}
use Rattle.parse_tables.specs.Rows.{Kept, rows}

pub record OperationAdded (n : ℕ) (at : Position) (size : ℕ) (body : Run) (w w' : List ℕ) : Type 0 where
  pub whole : length w ≡ work_size
  pub still : length w' ≡ work_size
  pub records : (name : Name) → length name ≡ size → rows T.Operations (n + 1) w' ≡ rows T.Operations n w ++ operation_record (record { name = name; body = run_meant body })
  pub places : rows T.OperationPlaces (n + 1) w' ≡ rows T.OperationPlaces n w ++ place_bytes 0 (positioned at)
  pub names : rows T.OperationNames (n + 1) w' ≡ rows T.OperationNames n w ++ name_row at.place size
  pub kept : Kept (T.Operations ∷ T.OperationPlaces ∷ T.OperationNames ∷ []) w w'
