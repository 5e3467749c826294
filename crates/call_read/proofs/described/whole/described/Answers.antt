use mathlib.Core.Path.{refl}
use Rattle.parse_step.proofs.Answers.{err-came}
use Rattle.call_read.proofs.DescribedLaws.{behind, opening-refused, states-refused, text-described}
use Rattle.call_read.proofs.described.whole.described.Goals as goal

pub returns-in_err-opened : goal.returns-in_err-opened
returns-in_err-opened c =
    rw (err-came c.from_residual.ensures.1) (opening-refused c.in_err-opened.ensures)

pub states_of-requires : goal.states_of-requires
states_of-requires c =
    behind (c.in_ok-opened.ensures.done refl)

pub returns-in_err-end : goal.returns-in_err-end
returns-in_err-end c =
    let x = c.in_ok-opened.ensures.done refl in
    rw (err-came c.from_residual-in_err-end.ensures.1) (states-refused c.requires x (c.in_err-end.ensures _ x.operations x.ready))

pub returns : goal.returns
returns c =
    let x = c.in_ok-opened.ensures.done refl in
    text-described c.requires x c.sequencing_length-l.result (c.in_ok-end.ensures _ x.operations x.ready) c.sequencing_length-l.ensures
