use Rattle.parse_step.proofs.Answers.{err-came}
use Rattle.parse_facilities.specs.Lists.{registers}
use Rattle.parse_sections.proofs.SectionLaws.{from-not, from-read, from-stands}
use Rattle.parse_sections.proofs.sections.registers.Goals as goal

pub section-requires : goal.section-requires
section-requires c = c.requires

pub returns-in_err-read : goal.returns-in_err-read
returns-in_err-read c = rw (err-came c.from_residual.ensures.1) (from-not registers c.in_err-read.ensures)

pub behind_registers-requires : goal.behind_registers-requires
behind_registers-requires c = from-stands registers c.in_ok-read.ensures c.requires

pub returns : goal.returns
returns c = from-read registers c.in_ok-read.ensures c.behind_registers.ensures
