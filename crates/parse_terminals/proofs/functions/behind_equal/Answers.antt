use mathlib.Core.Path.{sym, ◌∙◌}
use Rattle.parse_step.proofs.Answers.{err-came}
use Rattle.parse_terminals.proofs.FunctionLaws.{computed-defined, input-defined, input-undefined}
use Rattle.parse_terminals.proofs.functions.behind_equal.Goals as goal

pub returns-then-kind_of-ne-INPUT : goal.returns-then-kind_of-ne-INPUT
returns-then-kind_of-ne-INPUT c = computed-defined c.args.name c.args.equal (λ e. c.if-kind_of-ne-INPUT.true (c.kind_of.ensures ∙ e)) c.computed.ensures

pub returns-in_err-reached : goal.returns-in_err-reached
returns-in_err-reached c =
    rw (err-came c.from_residual.ensures.1) (input-undefined c.args.name c.args.equal (sym c.kind_of.ensures ∙ c.if-kind_of-ne-INPUT.false) c.in_err-reached.ensures)

pub returns : goal.returns
returns c = input-defined c.args.name c.args.equal (sym c.kind_of.ensures ∙ c.if-kind_of-ne-INPUT.false) c.in_ok-reached.ensures c.position.ensures
