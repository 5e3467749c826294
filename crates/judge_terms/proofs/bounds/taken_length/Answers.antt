use Rattle.judge_terms.proofs.bounds.taken_length.Goals as goal

pub returns : goal.returns
returns c =
    λ name. c.taken_length.ensures _ (c.shape_of.ensures name)
