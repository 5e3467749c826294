use Rattle.parse_step.proofs.TakenWords.{expected-not, expected-taken}
use mathlib.Core.Path.{sym, ◌∙◌}
use Rattle.parse_step.proofs.taking.expect.Goals as goal

pub returns-then-kind_of-kind : goal.returns-then-kind_of-kind
returns-then-kind_of-kind c =
    expected-taken c.args.kind c.args.bearing (sym c.kind_of.ensures ∙ c.if-kind_of-kind.true) c.take.ensures

pub returns : goal.returns
returns c =
    expected-not c.args.kind c.args.bearing (λ e. c.if-kind_of-kind.false (c.kind_of.ensures ∙ e)) c.refuse.ensures
