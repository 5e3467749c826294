use Rattle.judge_terms.proofs.bounds.word_length.Goals as goal

pub returns : goal.returns
returns c =
    (λ name. c.word_length.ensures.1 _ (c.shape_of.ensures name), c.word_length.ensures.0)
