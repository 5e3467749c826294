use Rattle.judge_expressions.specs.Judging.{FilledBy}
use Rattle.judge_expressions.proofs.filled.fill.Given as goal

abbrev pub invariant-loop-n : goal.invariant-loop-n
invariant-loop-n l = FilledBy l.records l.known l.initial.memo l.memo l.end
