use mathlib.Core.Path.{sym, ap, ◌∙◌}
use lib.ListN.{length}
use Rattle.language.specs.Reading.{zeroes}
use Rattle.call_run.proofs.RefusalLaws.{refused-so}
use Rattle.call_run.proofs.run.run.Goals as goal

pub carry_out-requires : goal.carry_out-requires
carry_out-requires c =
    (sym (rw c.in-Ok.is at c.run_refusal.ensures), c.zero.ensures ∙ ap zeroes (sym c.trace-1.given))

pub returns-in-Err : goal.returns-in-Err
returns-in-Err c =
    let e = rw (c.in-Err.is, c.trace-1.given) at c.run_refusal.ensures in
    rw (c.zero-in-Err.ensures, c.zero.ensures) (refused-so c.args.image.now c.args.store.now c.args.«record».now c.args.stimuli.now c.args.cycles (length c.args.scratch.now) (length c.args.trace.now) c.in-Err.refusal e)

pub returns-in-Ok : goal.returns-in-Ok
returns-in-Ok c =
    rw c.trace-1.given at c.carry_out.ensures
