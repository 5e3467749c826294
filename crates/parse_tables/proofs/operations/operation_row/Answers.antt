use Rattle.image_sections.specs.Declarations.{run_meant}
use Rattle.parse_tables.proofs.OtherRecords.{operation-said}
use Rattle.parse_tables.proofs.operations.operation_row.Goals as goal

pub returns : goal.returns
returns c =
    operation-said c.args.size (run_meant c.args.body) c.operation_bytes.ensures
