use mathlib.Core.Path.{ap, ◌∙◌}
use Prim.Native.Nat.{suc}
use native.Mathlib.Omega.{arith}
use Rattle.std.specs.Result.{result_ok}
use Rattle.language.specs.Acting as T
use Rattle.store_layout.specs.InBytes.{bytes}
use Rattle.run_actions.proofs.RunLaws.{run-below, run-over}
use Rattle.run_actions.proofs.ways.into_arm.Goals as goal

pub returns-then-m-count : goal.returns-then-m-count
returns-then-m-count c =
    let q = c.ok_or.ensures.ok_part ∙ ap result_ok c.in_ok-first.was in
    (tt, λ d x. rw (q, run-over (bytes d) d (T.operation_below (bytes d) d c.args.limit) (suc c.args.m) c.in_ok-first.count c.in_ok-first.first x (omega (arith, c.if-m-count.true))))

pub returns : goal.returns
returns c =
    let q = c.ok_or.ensures.ok_part ∙ ap result_ok c.in_ok-first.was in
    (omega (arith, c.if-m-count.false), λ d x. rw (q, run-below (bytes d) d (T.operation_below (bytes d) d c.args.limit) (suc c.args.m) c.in_ok-first.count c.in_ok-first.first x (omega (arith, c.if-m-count.false))))
