use mathlib.Core.Path.{sym, ◌∙◌}
use Rattle.parse_states.proofs.BodyLaws.{body-empty, body-listed, body-named}
use Rattle.parse_states.proofs.bodies.body.Goals as goal

pub list-requires : goal.list-requires
list-requires c =
    c.requires

pub returns-then-named : goal.returns-then-named
returns-then-named c =
    body-named c.args.name c.if-named.true c.list.ensures

pub returns-then-kind_of-eq-SLASH : goal.returns-then-kind_of-eq-SLASH
returns-then-kind_of-eq-SLASH c =
    body-empty c.args.name c.if-named.false (sym c.kind_of.ensures ∙ c.if-kind_of-eq-SLASH.true) c.take.ensures

pub list-requires-2 : goal.list-requires-2
list-requires-2 c =
    c.requires

pub returns : goal.returns
returns c =
    body-listed c.args.name c.if-named.false (λ e. c.if-kind_of-eq-SLASH.false (c.kind_of.ensures ∙ e)) c.list-2.ensures
