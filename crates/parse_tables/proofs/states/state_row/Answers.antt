use Rattle.image_sections.specs.Declarations.{run_meant, value_meant}
use Rattle.parse_tables.proofs.OtherRecords.{state-said}
use Rattle.parse_tables.proofs.states.state_row.Goals as goal

pub returns : goal.returns
returns c =
    state-said c.args.size (value_meant c.args.value) (run_meant c.args.actions) c.state_bytes.ensures
