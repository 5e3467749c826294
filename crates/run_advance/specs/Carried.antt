-- What a cycle is carried out on, and the record that it leaves.
use Rattle.std.specs.Prelude.{Err, Ok, Result, List, ◌≡◌, ℕ, length}
use Rattle.language.specs.Calls as L
use Rattle.language.specs.Decode.{section_at}
use Rattle.language.specs.Encode.{action_size, actions_section, expressions_section, facilities_section, facility_size, node_size, operation_size, operations_section, state_size, states_section}
use Rattle.language.specs.RecordBytes.{record_bytes, record_from, record_size}
use Rattle.language.specs.Step as S
use Rattle.image_sections.specs.declared.sections.Sections.{Sections}
use Rattle.run_references.specs.declared.worth.Halted.{Halted}
use Rattle.run_next.specs.Seen.{record_meant}
use Rattle.run_end.specs.declared.outcome.Stepped.{Stepped}

-- The sections of an image, but for its names.
pub record Sliced (image : List ℕ) (sections : Sections) : Type 0 where
  pub facilities-are : sections.facilities.now ≡ section_at facilities_section facility_size image
  pub operations-are : sections.operations.now ≡ section_at operations_section operation_size image
  pub expressions-are : sections.expressions.now ≡ section_at expressions_section node_size image
  pub actions-are : sections.actions.now ≡ section_at actions_section action_size image
  pub states-are : sections.states.now ≡ section_at states_section state_size image

-- A record that is read back from its bytes, whatever lies behind them.
pub record ReadBack (r : S.Record) : Type 0 where
  pub back : (K : List ℕ) → record_from (L.over (record_bytes r) K) ≡ r
  pub whole : length (record_bytes r) ≡ record_size

-- So is that of a completed cycle.
abbrev pub completed_back : Result Stepped Halted → Type 0
completed_back (Ok a) = ReadBack (record_meant a.record)
completed_back (Err h) = Unit {0}
