use Rattle.parse_states.proofs.BodyLaws.{first-named, first-other}
use Rattle.parse_states.proofs.bodies.first.Goals as goal

pub returns-then-named : goal.returns-then-named
returns-then-named c =
    first-named c.args.name c.if-named.true c.named_in_state.ensures

pub returns : goal.returns
returns c =
    first-other c.args.name c.if-named.false c.action.ensures
