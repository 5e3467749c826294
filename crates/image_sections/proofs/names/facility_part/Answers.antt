use Rattle.image_sections.specs.Names.{facility_part}
use Rattle.image_sections.proofs.names.facility_part.Goals as goal

pub returns : goal.returns
unfolding facility_part
returns c =
    rw (c.names_length.ensures.0, c.facility_at-f.ensures.name)
