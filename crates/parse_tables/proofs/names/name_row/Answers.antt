use mathlib.Core.Path.{ap}
use Rattle.language.specs.Encode.{little}
use Rattle.language.specs.Words.{Position}
use Rattle.parse_tables.proofs.NameLaws.{name-bytes}
use Rattle.parse_tables.proofs.names.name_row.Goals as goal

pub returns : goal.returns
unfolding little
returns c = rw (c.to_le_bytes.ensures, c.to_le_bytes-2.ensures) (name-bytes c.args.at.place c.args.length (ap (λ (p : Position). p.place) c.place.ensures))
