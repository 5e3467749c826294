use Rattle.image_lookups.proofs.named.found.Goals as goal

pub returns : goal.returns
returns c =
    rw c.four-names.ensures
