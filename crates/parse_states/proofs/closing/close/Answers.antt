use Rattle.parse_states.proofs.ClosingLaws.{closed}
use Rattle.parse_states.proofs.closing.close.Goals as goal

pub returns : goal.returns
returns c =
    closed c.add_name.ensures c.add_state.ensures
