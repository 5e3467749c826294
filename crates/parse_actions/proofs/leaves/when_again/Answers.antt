use Rattle.parse_actions.proofs.Rewriting.{one-branch}
use Rattle.parse_actions.proofs.leaves.when_again.Goals as goal

pub returns : goal.returns
returns c =
    one-branch c.last.ensures c.behind.ensures c.rewrite_action.ensures c.place_row-beside.ensures c.write.ensures
