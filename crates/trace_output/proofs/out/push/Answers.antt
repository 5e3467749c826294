use Rattle.trace_output.proofs.AddsLaws.{adds-full, adds_one}
use Rattle.trace_output.proofs.out.push.Goals as goal

pub returns-then-at-out : goal.returns-then-at-out
returns-then-at-out c = adds_one _ _ _ c.if-at-out.true

pub returns : goal.returns
returns c = adds-full _ _ _ c.if-at-out.false
