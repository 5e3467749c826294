use Rattle.trace_output.proofs.AddsLaws.{adds-both}
use Rattle.trace_output.proofs.line.numbered.Goals as goal

pub returns : goal.returns
returns c =
    adds-both c.append-end.ensures (adds-both c.decimal-end.ensures c.push.ensures)
