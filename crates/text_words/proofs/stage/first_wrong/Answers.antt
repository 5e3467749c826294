use mathlib.Core.Path.{sym, ◌∙◌}
use Rattle.std.proofs.lemmas.Result.{err_from_is_err_and}
use Rattle.text_words.proofs.Walk.{fault-here, fault-next, faults-all, faults-end, item-fits, item-some}
use native.Mathlib.Omega.{arith}
use Rattle.text_words.proofs.stage.first_wrong.Goals as goal

pub loop-at-init : goal.loop-at-init
loop-at-init c = (omega arith, faults-all c.args.text.now)

pub overflow_add-at : goal.overflow_add-at
overflow_add-at c = omega (arith, item-fits c.args.text.now c.loop-at.at c.item_at-item.result (omega arith) c.item_at-item.ensures)

pub loop-at-smaller : goal.loop-at-smaller
loop-at-smaller c =
    omega (arith, item-fits c.args.text.now c.loop-at.at c.item_at-item.result (omega arith) c.item_at-item.ensures, item-some c.args.text.now c.loop-at.at c.item_at-item.result (omega arith) c.item_at-item.ensures)

pub loop-at-preserved : goal.loop-at-preserved
loop-at-preserved c =
    (item-fits c.args.text.now c.loop-at.at c.item_at-item.result (omega arith) c.item_at-item.ensures, c.loop-at.invariant.1 ∙ fault-next c.args.text.now c.loop-at.at c.item_at-item.result (omega arith) c.item_at-item.ensures (sym c.in_ok-fault_of.ensures))

pub returns-in_err-fault_of : goal.returns-in_err-fault_of
returns-in_err-fault_of c =
    let p = err_from_is_err_and c.from_residual.result c.from_residual.ensures.1 in
    rw (p.1, p.2)
    (fault-here c.args.text.now c.loop-at.at c.item_at-item.result (omega arith) c.item_at-item.ensures _ (sym c.in_err-fault_of.ensures) ∙ sym c.loop-at.invariant.1)

pub returns : goal.returns
returns c = faults-end c.args.text.now c.loop-at.at (omega arith) ∙ sym c.loop-at.invariant.1
