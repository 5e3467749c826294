use lib.ListN.{take}
use Rattle.trace_output.specs.Adds.{Adds}
use Rattle.trace_output.proofs.out.append.Given as goal

abbrev pub invariant-loop-b : goal.invariant-loop-b
invariant-loop-b l = Adds (take l.b-index l.bytes) l.initial.out l.at l.out l.end
