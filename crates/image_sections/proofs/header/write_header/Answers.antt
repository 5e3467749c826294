use mathlib.Core.Path.{ap, ◌∙◌}
use Rattle.image_records.specs.Placed.{placed}
use Rattle.image_sections.proofs.header.write_header.Goals as goal

pub returns : goal.returns
returns c =
    c.put.ensures ∙ ap (placed c.args.image.now 0) c.header_bytes.ensures
