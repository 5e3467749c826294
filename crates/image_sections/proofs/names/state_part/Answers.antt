use Rattle.image_sections.specs.Names.{state_part}
use Rattle.image_sections.proofs.names.state_part.Goals as goal

pub returns : goal.returns
unfolding state_part
returns c =
    rw (c.names_length-before.ensures.0, c.names_length-between.ensures.0, c.names_length.ensures.0, c.state_at-s.ensures.name)
