use Rattle.trace_output.proofs.AddsLaws.{adds-as}
use Rattle.trace_output.proofs.LabelLaws.{no_label, some-label}
use Rattle.trace_output.proofs.line.label_text.Goals as goal

pub returns-then-label-eq0 : goal.returns-then-label-eq0
returns-then-label-eq0 c =
    adds-as c.push.ensures (no_label c.args.label.now c.if-label-eq0.true)

pub returns : goal.returns
returns c =
    adds-as c.append.ensures (some-label c.args.label.now c.if-label-eq0.false)
