use Rattle.run_stores.proofs.spots.spot_of.Goals as goal

pub returns : goal.returns
returns c =
    λ name. rw (c.word_place.ensures, c.word_length-length.ensures.1 name)
