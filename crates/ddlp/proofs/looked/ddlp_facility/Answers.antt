use mathlib.Core.Path.{ap, ◌∙◌}
use Rattle.language.specs.Decode.{decode}
use Rattle.language.specs.Description.{facility_at}
use Rattle.call_answers.specs.Numbers.{facility_numbers}
use Rattle.ddlp.proofs.looked.ddlp_facility.Goals as goal

pub returns : goal.returns
returns c =
    c.facility_numbers.ensures (facility_at (decode c.args.image.now) c.args.number).name ∙ ap facility_numbers c.facility.ensures.facility
