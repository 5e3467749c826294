-- What a cycle over the sections of an image promises of its answer.
use Rattle.std.specs.Prelude.{Result, List, ◌≡◌, ℕ, ◌/◌, ◌≤◌, length}
use Rattle.language.specs.Calls.{stimulus_size}
use Rattle.language.specs.Description.{Description}
use Rattle.language.specs.Encode.{operation_size}
use Rattle.language.specs.Layout.{store_size_of}
use Rattle.language.specs.Step as S
use Rattle.language.specs.Store.{from_bytes, inputs_of}
use Rattle.image_sections.specs.declared.sections.Sections.{Sections}
use Rattle.run_actions.specs.Acts.{ActsIn}
use Rattle.run_references.specs.declared.worth.Halted.{Halted}
use Rattle.run_next.specs.Seen.{record_meant}
use Rattle.run_next.specs.declared.record.Record.{Record}
use Rattle.run_end.specs.Register.{Enters}
use Rattle.run_end.specs.Stepped.{Clear, counted, stepped}
use Rattle.run_end.specs.declared.outcome.Stepped.{Stepped}

-- The answer a to the record r, with the bytes that are left of the store: what the cycle comes to.
pub record Settled (sections : Sections) (r : Record) (stimulus store pending mask : List ℕ) (a : Result Stepped Halted) (left : List ℕ) : Type 0 where
  pub means :
      (d : Description)
      → Enters d sections.facilities.now sections.expressions.now sections.states.now
      → ActsIn d sections
      → length d.operations ≡ length sections.operations.now / operation_size
      → store_size_of d.facilities ≤ length store
      → stimulus_size d ≤ length stimulus
      → Clear store pending mask
      → stepped d.facilities a left ≡ counted (S.step d (from_bytes d.facilities store) (record_meant r) (from_bytes (inputs_of d.facilities) stimulus))
