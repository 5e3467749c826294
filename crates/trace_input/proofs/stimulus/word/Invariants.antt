use Rattle.trace_input.proofs.LineWord.{Put}
use Rattle.trace_input.proofs.stimulus.word.Given as goal

abbrev pub invariant-loop-rest : goal.invariant-loop-rest
invariant-loop-rest l = Put l.length l.line l.at l.initial.stimulus l.place l.stimulus l.rest l.left l.from l.to
