use mathlib.Core.Path.{ap, ◌∙◌}
use Rattle.std.proofs.lemmas.Result.{err_from_is_err_and}
use Rattle.run_stores.specs.Seen.{ran_seen}
use Rattle.run_actions.proofs.RunLaws.{held-ends, held-goes-on, over_none}
use Rattle.run_actions.proofs.run.+run_held_run_list.Goals as goal

pub run_held-returns-in_err-next : goal.run_held-returns-in_err-next
run_held-returns-in_err-next t c =
    λ d w h e.
    let k = rw c.in-Inside.is at (c.loop-reached.invariant.5 d w h e) in
    let r = err_from_is_err_and c.from_residual.result c.from_residual.ensures.1 in
    rw (r.1, r.2) (held-ends d c.args.limit _ _ w k _ (rw c.in_err-next.was at (c.run_list.ensures d k.doing h k.seen)))

pub run_held-returns-in_err-reached : goal.run_held-returns-in_err-reached
run_held-returns-in_err-reached t c =
    λ d w h e.
    let k = rw c.in-Inside.is at (c.loop-reached.invariant.5 d w h e) in
    let o = held-goes-on d c.args.limit _ _ w k _ (rw c.in_ok-next.was at (c.run_list.ensures d k.doing h k.seen)) in
    let r = err_from_is_err_and c.from_residual-in_err-reached.result c.from_residual-in_err-reached.ensures.1 in
    rw (r.1, r.2) (rw c.in_err-reached.was at (c.reach.ensures.1 d o.doing h o.seen) ∙ o.rest)

pub run_list-returns-in_err-from : goal.run_list-returns-in_err-from
run_list-returns-in_err-from t c =
    λ d x h e.
    let r = err_from_is_err_and c.from_residual.result c.from_residual.ensures.1 in
    rw (r.1, r.2) (rw c.in_err-from.was at (c.reach.ensures.1 d x h e) ∙ ap ran_seen (over_none d c.args.limit c.args.first c.args.count x))

pub run_list-returns : goal.run_list-returns
run_list-returns t c =
    λ d x h e.
    c.run_held.ensures d _ h (rw c.in_ok-from.was at (c.reach.ensures.1 d x h e)) ∙ ap ran_seen (over_none d c.args.limit c.args.first c.args.count x)
