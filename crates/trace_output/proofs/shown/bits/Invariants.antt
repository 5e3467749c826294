use lib.ListN.{take}
use Rattle.language.specs.Trace as T
use Rattle.store_layout.specs.Layout.{word_in}
use Rattle.trace_output.specs.Adds.{Adds}
use Rattle.trace_output.proofs.shown.bits.Given as goal

abbrev pub invariant-loop-k : goal.invariant-loop-k
invariant-loop-k l = Adds (take l.k (T.bits l.length (word_in l.store l.place l.length))) l.initial.out l.at l.out l.end
