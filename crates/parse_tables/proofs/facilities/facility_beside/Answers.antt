use mathlib.Core.Path.{◌∙◌}
use Rattle.language.specs.Encode.{little}
use Rattle.judge_records.specs.Noted.{facility_beside_bytes, place_bytes}
use Rattle.parse_tables.proofs.facilities.facility_beside.Goals as goal

pub returns : goal.returns
unfolding facility_beside_bytes place_bytes little
returns c = λ name. rw (c.bytes.ensures ∙ c.ended-p.ensures, c.bytes-2.ensures ∙ c.ended-q.ensures)
