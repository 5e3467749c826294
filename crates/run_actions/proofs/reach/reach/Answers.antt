use mathlib.Core.Path.{◌≡◌, sym, ap, ◌∙◌}
use Prim.Native.Nat.{ℕ, suc, ◌-◌}
use native.Mathlib.Omega.{arith}
use Rattle.std.proofs.lemmas.Result.{err_from_is_err_and}
use Rattle.language.specs.Acting as T
use Rattle.image_records.proofs.ActionLaws.{action-past}
use Rattle.store_layout.specs.InBytes.{bytes}
use Rattle.run_stores.specs.Seen.{ran_seen, went}
use Rattle.run_actions.specs.Acts.{run_below, run_of}
use Rattle.run_actions.proofs.RunLaws.{continues, ends, goes-inside, past_all, run_none, runs-over}
use borrow.Author.Rules.{rules}
use Rattle.run_actions.proofs.reach.reach.Goals as goal

pub returns-then-all-i : goal.returns-then-all-i
returns-then-all-i c = (
  tt,
  λ d x h e.
      let k = c.loop-left.invariant.4 d x h e in
      let y : c.loop-left.left ≡ suc (c.loop-left.left - 1) = omega (arith, c.loop-left-test.true) in
      past_all d c.args.limit _ _ c.loop-left.i (c.loop-left.left - 1) c.loop-left.left y k (h.actions c.loop-left.i ∙ action-past c.args.image.now.actions.now c.loop-left.i c.if-all-i.true),
)

pub returns-in_err-came : goal.returns-in_err-came
returns-in_err-came c =
    let r = err_from_is_err_and c.from_residual.result c.from_residual.ensures.1 in
    rw (r.1, r.2) (
      tt,
      λ d x h e.
          let k = c.loop-left.invariant.4 d x h e in
          let y : c.loop-left.left ≡ suc (c.loop-left.left - 1) = omega (arith, c.loop-left-test.true) in
          ends d c.args.limit _ _ c.loop-left.i (c.loop-left.left - 1) c.loop-left.left y k c.action_at-a.result (h.actions c.loop-left.i ∙ sym c.action_at-a.ensures) _ (rw c.in_err-came.was at (c.one.ensures.1 d k.doing h k.seen)),
    )

pub returns-in-Into : goal.returns-in-Into
returns-in-Into c = (
  (omega (arith, c.loop-left-test.true, c.loop-left.invariant.0), (rw c.in-Into.is at (rw c.in_ok-came.was at c.one.ensures.0), (omega arith))),
  λ d x h e.
      let k = c.loop-left.invariant.4 d x h e in
      let y : c.loop-left.left ≡ suc (c.loop-left.left - 1) = omega (arith, c.loop-left-test.true) in
      let z = rw c.in-Into.is at (rw c.in_ok-came.was at (c.one.ensures.1 d k.doing h k.seen)) in
      record { doing = k.doing; seen = z.0; rest = goes-inside d c.args.limit _ _ c.loop-left.i (c.loop-left.left - 1) c.loop-left.left y k c.action_at-a.result (h.actions c.loop-left.i ∙ sym c.action_at-a.ensures) c.in-Into.list c.passed-x.result c.passed-x.ensures z.1 },
)

pub returns-then-left-x : goal.returns-then-left-x
returns-then-left-x c = (
  tt,
  λ d x h e.
      let k = c.loop-left.invariant.4 d x h e in
      let y : c.loop-left.left ≡ suc (c.loop-left.left - 1) = omega (arith, c.loop-left-test.true) in
      let f = rw c.in-Done.is at (rw c.in_ok-came.was at (c.one.ensures.1 d k.doing h k.seen)) in
      runs-over d c.args.limit _ _ c.loop-left.i (c.loop-left.left - 1) c.loop-left.left y k c.action_at-a.result (h.actions c.loop-left.i ∙ sym c.action_at-a.ensures) _ f (rw c.passed-x.ensures at c.if-left-x.true),
)

pub loop-left-preserved : goal.loop-left-preserved
loop-left-preserved c = (
  omega arith,
  search rules,
  search rules,
  search rules,
  λ d x h e.
      let k = c.loop-left.invariant.4 d x h e in
      let y : c.loop-left.left ≡ suc (c.loop-left.left - 1) = omega (arith, c.loop-left-test.true) in
      let f = rw c.in-Done.is at (rw c.in_ok-came.was at (c.one.ensures.1 d k.doing h k.seen)) in
      rw c.passed-x.ensures (continues d c.args.limit _ _ c.loop-left.i (c.loop-left.left - 1) c.loop-left.left y k c.action_at-a.result (h.actions c.loop-left.i ∙ sym c.action_at-a.ensures) _ f (rw c.passed-x.ensures at c.if-left-x.false)),
)

pub returns : goal.returns
returns c = (
  (search rules, tt),
  λ d x h e.
      let k = c.loop-left.invariant.4 d x h e in
      let y : 0 ≡ c.loop-left.left = omega (arith, c.loop-left-test.false) in
      ap went k.seen ∙ (ap ran_seen (sym (run_none (bytes d) d (T.operation_below (bytes d) d c.args.limit) c.loop-left.i k.doing)) ∙ (ap (λ (n : ℕ). ran_seen (run_below d c.args.limit (run_of c.loop-left.i n) k.doing)) y ∙ k.rest)),
)
