use mathlib.Core.Path.{ap, subst, sym, ◌∙◌}
use Rattle.ddlp.proofs.NameBounds.{state-short}
use Rattle.call_answers.specs.Numbers.{Short, name_numbers}
use Rattle.ddlp.proofs.looked.ddlp_state_name.Goals as goal

pub name_numbers-requires : goal.name_numbers-requires
name_numbers-requires c =
    subst Short (sym c.state_part.ensures) (state-short c.args.image.now c.args.number)

pub returns : goal.returns
returns c = c.name_numbers.ensures ∙ ap name_numbers c.state_part.ensures
