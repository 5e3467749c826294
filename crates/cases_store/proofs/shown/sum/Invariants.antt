use Rattle.std.proofs.Common.{◌<◌}
use Rattle.cases_store.proofs.shown.sum.Given as goal

abbrev pub invariant-loop-b : goal.invariant-loop-b
invariant-loop-b l = l.n < 4294967296
