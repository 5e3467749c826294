use Rattle.parse_step.proofs.adding.eased.Goals as goal

pub returns : goal.returns
returns c =
    rw c.last.ensures
