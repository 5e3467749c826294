use Rattle.std.proofs.Common.{sym}
use Rattle.trace_whole.proofs.line.carried.Goals as goal

pub cycle-answer-requires : goal.cycle-answer-requires
cycle-answer-requires c = sym c.requires.0

pub returns : goal.returns
returns c = c.told.ensures _ _ _ _ c.four-state.ensures c.cycle-answer.ensures
