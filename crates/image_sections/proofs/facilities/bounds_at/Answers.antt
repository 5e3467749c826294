use Rattle.image_sections.proofs.facilities.bounds_at.Goals as goal

pub returns : goal.returns
returns c =
    rw (c.two_there.ensures, c.two_there-2.ensures)
