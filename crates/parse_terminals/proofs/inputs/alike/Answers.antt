use mathlib.Core.Path.{◌∙◌}
use Rattle.parse_terminals.proofs.InputLaws.{letters-alike}
use Rattle.parse_terminals.proofs.inputs.alike.Goals as goal

pub returns : goal.returns
returns c =
    c.matches.ensures ∙ letters-alike c.args.text.now c.args.v c.args.w c.place.ensures c.place-2.ensures c.part-declared.ensures c.part-repeated.ensures
