use Rattle.image_form.proofs.labels.names_fit.Goals as goal

pub returns : goal.returns
returns c =
    rw (c.names_length-f.ensures.0, c.names_length-o.ensures.0, c.names_length-s.ensures.0)
