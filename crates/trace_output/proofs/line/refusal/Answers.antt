use Rattle.language.specs.Scan.{bytes}
use Rattle.trace_output.proofs.AddsLaws.{adds-both}
use Rattle.trace_output.proofs.line.refusal.Goals as goal

pub returns : goal.returns
unfolding bytes
returns c =
    adds-both c.append-end.ensures (adds-both c.decimal-end.ensures c.numbered.ensures)
