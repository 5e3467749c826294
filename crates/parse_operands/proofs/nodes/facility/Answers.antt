use Rattle.language.specs.Naming.{number_of}
use Rattle.language.specs.Words.{Position}
use Rattle.parse_tables.specs.Names.{facility_names}
use Rattle.parse_array.specs.Names.{letters}
use mathlib.Core.Path.{ap, ◌∙◌}
use Rattle.parse_operands.proofs.nodes.facility.Goals as goal

pub returns : goal.returns
unfolding letters
returns c =
    c.find.ensures ∙ ap (λ (p : Position). number_of (letters c.args.text.now p.place c.args.name.size) 0 (facility_names c.args.text.now c.args.work.now c.args.known)) c.place.ensures
