use Rattle.std.proofs.lemmas.Result.{err_from_is_err_and}
use Rattle.run_advance.proofs.SettledLaws.{settled-so}
use Rattle.run_advance.proofs.carried.carried.Goals as goal

pub returns-in_err-s : goal.returns-in_err-s
returns-in_err-s c =
    λ i K n sliced read lw lp lm free.
    let so = settled-so c.args.image.now c.args.r i c.args.store.now K c.args.stimulus.now c.args.work.now c.copy.new.s c.args.pending.now c.zero.new.s c.lent-ended.new.store n _ c.lent-ended.result.1
    sliced read free (λ j. (c.slice_known-1.given j).fits) lw lp lm c.copy.ensures c.work-1.given c.zero.ensures (λ j. (c.slice_known-7-1.given j).fits) c.work-2-1.given c.lent-ended.ensures.0 in
    let e = err_from_is_err_and c.from_residual.result c.from_residual.ensures.1 in
    rw (e.1, e.2, c.keep_store.ensures, c.in_err-s.was) (rw c.in_err-s.was at so)

pub returns : goal.returns
returns c =
    λ i K n sliced read lw lp lm free.
    let so = settled-so c.args.image.now c.args.r i c.args.store.now K c.args.stimulus.now c.args.work.now c.copy.new.s c.args.pending.now c.zero.new.s c.lent-ended.new.store n _ c.lent-ended.result.1
    sliced read free (λ j. (c.slice_known-1.given j).fits) lw lp lm c.copy.ensures c.work-1.given c.zero.ensures (λ j. (c.slice_known-7-1.given j).fits) c.work-2-1.given c.lent-ended.ensures.0 in
    rw (rw c.in_ok-s.was at c.lent-ended.ensures.1, c.keep_store.ensures, c.in_ok-s.was) (rw c.in_ok-s.was at so)
