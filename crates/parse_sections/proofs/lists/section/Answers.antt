use Rattle.parse_step.proofs.Answers.{err-came}
use Rattle.parse_sections.proofs.ListLaws.{section-not, section-read, section-stands}
use Rattle.parse_sections.proofs.lists.section.Goals as goal

pub returns-in_err-first : goal.returns-in_err-first
returns-in_err-first g c = rw (err-came c.from_residual.ensures.1) (section-not g.L.List.listing c.requires c.in_err-first.ensures)

pub declarations-requires : goal.declarations-requires
declarations-requires g c = section-stands g.L.List.listing c.requires c.in_ok-first.ensures

pub returns : goal.returns
returns g c = section-read g.L.List.listing c.requires c.in_ok-first.ensures c.declarations.ensures
