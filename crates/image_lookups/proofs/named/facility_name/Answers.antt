use mathlib.Core.Path.{ap, ◌∙◌}
use Rattle.language.specs.Lookups.{part_of}
use Rattle.image_lookups.proofs.named.facility_name.Goals as goal

pub returns : goal.returns
returns c =
    c.name.ensures ∙ ap (part_of c.args.image.now) c.facility_part.ensures
