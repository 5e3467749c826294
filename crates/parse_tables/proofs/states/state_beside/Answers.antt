use Rattle.language.specs.Encode.{little}
use Rattle.judge_records.specs.Noted.{place_bytes, state_beside_bytes}
use Rattle.parse_tables.proofs.states.state_beside.Goals as goal

pub returns : goal.returns
unfolding state_beside_bytes place_bytes little
returns c = rw (c.place_row.ensures, c.place_row-2.ensures)
