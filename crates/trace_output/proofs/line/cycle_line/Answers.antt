use mathlib.Core.Path.{◌∙◌}
use Rattle.trace_output.proofs.AddsLaws.{adds-as, adds-both}
use Rattle.trace_output.proofs.LabelLaws.{line-whole}
use Rattle.trace_output.proofs.line.cycle_line.Goals as goal

pub returns : goal.returns
returns c = (
  c.push.ensures.long ∙ (c.facilities_line-end.ensures.0 ∙ (c.label_text-end.ensures.long ∙ (c.push-end.ensures.long ∙ c.decimal-end.ensures.long))),
  λ d E state h k r e.
      adds-as (adds-both c.decimal-end.ensures (adds-both c.push-end.ensures (adds-both c.label_text-end.ensures (adds-both (c.facilities_line-end.ensures.1 d E h k r) c.push.ensures)))) (line-whole d c.args.number state c.args.store.now c.args.label.now e),
)
