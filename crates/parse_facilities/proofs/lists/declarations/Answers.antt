use Rattle.parse_step.proofs.Answers.{err-came}
use Rattle.parse_facilities.proofs.ListLaws.{list-more, list-not, list-stands}
use Rattle.parse_facilities.proofs.lists.declarations.Goals as goal

pub returns-in_err-first : goal.returns-in_err-first
returns-in_err-first g c = rw (err-came c.from_residual.ensures.1) (list-not g.L.List.listing c.in_err-first.ensures)

pub more-requires : goal.more-requires
more-requires g c = list-stands g.L.List.listing c.in_ok-first.ensures c.requires

pub returns : goal.returns
returns g c = list-more g.L.List.listing c.in_ok-first.ensures c.more.ensures
