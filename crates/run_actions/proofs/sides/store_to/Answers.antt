use mathlib.Core.Path.{sym, ap, ◌∙◌}
use Rattle.run_references.specs.Described.{There}
use Rattle.run_references.specs.Worth.{answered}
use Rattle.run_expressions.specs.Sides.{side_meant}
use Rattle.run_stores.proofs.StoreLaws.{bytes-seen}
use Rattle.run_actions.proofs.sides.store_to.Goals as goal

pub returns : goal.returns
returns c =
    λ d x h e.
    let b = bytes-seen d x c.args.g c.args.store.now c.args.pending.now c.args.mask.now e in
    let l = c.left_side.ensures d x.store h b in
    let t : There d c.args.image.now.facilities.now c.in_ok-f.p.facility c.in_ok-f.f = rw c.in_ok-f.was at l.1 in
    rw (sym l.0 ∙ ap side_meant c.in_ok-f.was, sym (c.eval.ensures d x.store h b) ∙ ap answered c.in_ok-v.was) (c.store_one.ensures c.args.image.now.facilities.now c.args.image.now.expressions.now d x h e t)
