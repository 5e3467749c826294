use Rattle.parse_step.proofs.Answers.{err-came}
use Rattle.parse_terminals.proofs.ComputedLaws.{computed-not, computed-read}
use Rattle.parse_terminals.proofs.functions.computed.Goals as goal

pub returns-in_err-reached : goal.returns-in_err-reached
returns-in_err-reached c = rw (err-came c.from_residual.ensures.1) (computed-not c.args.equal c.in_err-reached.ensures.0 c.in_err-reached.ensures.1)

pub returns : goal.returns
returns c = computed-read c.args.equal c.in_ok-reached.ensures.0 c.in_ok-reached.ensures.1 c.last.ensures
