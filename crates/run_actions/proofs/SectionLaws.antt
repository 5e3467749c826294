-- Sections describe the actions and operations that they decode to.
use Prim.Native.Nat.{◌/◌}
use lib.ListN.{length}
use Rattle.language.specs.Decode.{described}
use Rattle.language.specs.Encode.{Sections, facility_size, state_size}
use Rattle.image_sections.proofs.DescribedLaws.{action-described, operation-described, states-count}
use Rattle.image_sections.specs.Names.{named, operation_part}
use Rattle.run_references.specs.Described.{Describes}
use Rattle.run_actions.specs.Acts.{Acts}

pub sections-act : (x : Sections) → Describes (described x) x.facilities x.expressions
    → Acts (described x) x.facilities x.operations x.expressions x.actions (length x.states / state_size)
sections-act x h = record {
  described = h;
  actions = action-described x;
  operations = λ n. record { name = named (operation_part x.facilities (length x.facilities / facility_size) x.operations n) x.names; is = operation-described x n };
  state_count = states-count x;
}
