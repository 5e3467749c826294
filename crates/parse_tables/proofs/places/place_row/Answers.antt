use mathlib.Core.Path.{◌∙◌}
use Rattle.language.specs.Encode.{little}
use Rattle.parse_tables.proofs.OtherRecords.{place-said}
use Rattle.parse_tables.proofs.places.place_row.Goals as goal

pub returns : goal.returns
unfolding little
returns c = c.to_le_bytes.ensures ∙ place-said c.args.at c.plain.result c.plain.ensures
