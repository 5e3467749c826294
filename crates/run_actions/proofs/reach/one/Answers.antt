use mathlib.Core.Path.{ap, ◌∙◌}
use Prim.Native.Nat.{suc}
use Rattle.std.proofs.lemmas.Result.{err_from_is_err_and}
use Rattle.language.specs.Acting as T
use Rattle.store_layout.specs.InBytes.{bytes}
use Rattle.run_stores.proofs.StoreLaws.{bytes-seen}
use Rattle.run_stores.specs.Seen.{ran_seen}
use Rattle.run_actions.proofs.RunLaws.{one-simple}
use borrow.Enum.Refused.{opened}
use Rattle.run_actions.proofs.reach.one.Goals as goal

pub returns-in_ok-perform-in-Perform : goal.returns-in_ok-perform-in-Perform
returns-in_ok-perform-in-Perform c = (
  c.along.ensures.0 c.args.limit c.args.m (rw c.in_ok-perform-in-Perform.was at c.perform.ensures.0),
  λ d x h e. rw c.in-Perform.is (rw (rw c.in_ok-perform-in-Perform.was at (c.perform.ensures.1 d x (h.operations _))) at (c.along.ensures.1 d x c.args.store.now c.args.pending.now c.args.mask.now e)),
)

pub returns-in_ok-when-in-When : goal.returns-in_ok-when-in-When
returns-in_ok-when-in-When c = (
  c.along-in-When.ensures.0 c.args.limit c.args.m (rw c.in_ok-when-in-When.was at c.when.ensures.0),
  λ d x h e.
      let b = bytes-seen d x c.args.g c.args.store.now c.args.pending.now c.args.mask.now e in
      rw c.in-When.is (rw (rw c.in_ok-when-in-When.was at (c.when.ensures.1 d x h.described h.actions b)) at (c.along-in-When.ensures.1 d x c.args.store.now c.args.pending.now c.args.mask.now e)),
)

pub returns-in_ok-choose-in-Choose : goal.returns-in_ok-choose-in-Choose
returns-in_ok-choose-in-Choose c = (
  c.along-in-Choose.ensures.0 c.args.limit c.args.m (rw c.in_ok-choose-in-Choose.was at c.choose.ensures.0),
  λ d x h e.
      let b = bytes-seen d x c.args.g c.args.store.now c.args.pending.now c.args.mask.now e in
      rw c.in-Choose.is (rw (rw c.in_ok-choose-in-Choose.was at (c.choose.ensures.1 d x h.described h.actions b)) at (c.along-in-Choose.ensures.1 d x c.args.store.now c.args.pending.now c.args.mask.now e)),
)

pub returns-in_ok-simple-in_default : goal.returns-in_ok-simple-in_default
returns-in_ok-simple-in_default c = (
  tt,
  λ d x h e.
      let p = T.operation_below (bytes d) d c.args.limit in
      rw c.in_ok-simple-in_default.was at (c.simple.ensures d x h.described e h.state_count) ∙ ap ran_seen (one-simple (bytes d) d p (T.list_below (bytes d) d p (suc c.args.m)) c.args.m c.args.i c.args.a x (opened c.in_default.in_default-own.keys4)),
)

pub returns-in_err-simple-in_default : goal.returns-in_err-simple-in_default
returns-in_err-simple-in_default c =
    let r = err_from_is_err_and c.from_residual-in_err-simple-in_default.result c.from_residual-in_err-simple-in_default.ensures.1 in
    rw (r.1, r.2) (
      tt,
      λ d x h e.
          let p = T.operation_below (bytes d) d c.args.limit in
          rw c.in_err-simple-in_default.was at (c.simple.ensures d x h.described e h.state_count) ∙ ap ran_seen (one-simple (bytes d) d p (T.list_below (bytes d) d p (suc c.args.m)) c.args.m c.args.i c.args.a x (opened c.in_default.in_default-own.keys4)),
    )
