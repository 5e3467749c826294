use Rattle.parse_step.proofs.Answers.{err-came}
use Rattle.parse_facilities.specs.Lists.{terminals}
use Rattle.parse_sections.proofs.SectionLaws.{from-not, from-read, from-stands}
use Rattle.parse_sections.proofs.sections.terminals.Goals as goal

pub section-requires : goal.section-requires
section-requires c = c.requires

pub returns-in_err-read : goal.returns-in_err-read
returns-in_err-read c = rw (err-came c.from_residual.ensures.1) (from-not terminals c.in_err-read.ensures)

pub behind_terminals-requires : goal.behind_terminals-requires
behind_terminals-requires c = from-stands terminals c.in_ok-read.ensures c.requires

pub returns : goal.returns
returns c = from-read terminals c.in_ok-read.ensures c.behind_terminals.ensures
