use Rattle.run_references.proofs.whole.whole.Goals as goal

pub returns : goal.returns
returns c =
    λ E d x h e ev k. rw c.in-Whole.is (c.stored.ensures E d x h e ev)
