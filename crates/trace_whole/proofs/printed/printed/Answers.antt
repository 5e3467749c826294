use Rattle.std.proofs.Common.{◌≡◌, ℕ, ◌≤◌, length, arith, rules}
use lib.ListN.{length-replicate}
use Rattle.trace_whole.proofs.BegunLaws.{refuses-printed, runs-printed, runs-ready}
use Rattle.trace_whole.specs.Begins.{Refuses, Runs}
use borrow.Author.Rules.{rules}
use Rattle.trace_whole.proofs.printed.printed.Goals as goal

pub begin_run-requires : goal.begin_run-requires
begin_run-requires c =
    (omega (arith, length-replicate {A = ℕ} 165556 0), search rules, search rules)

pub slice_bounds-cycles-end : goal.slice_bounds-cycles-end
slice_bounds-cycles-end c =
    let r : Runs c.args.text.now c.in-Ok.begun.image c.in-Ok.begun.store _ c.begin_run.new.image c.begin_run.new.store c.begin_run.new.record = rw c.in-Ok.is at c.begin_run.ensures in
    let h : c.in-Ok.begun.image ≤ length c.begin_run.new.image = r.inside in
    search rules

pub slice_bounds-store-end : goal.slice_bounds-store-end
slice_bounds-store-end c =
    let r : Runs c.args.text.now c.in-Ok.begun.image c.in-Ok.begun.store _ c.begin_run.new.image c.begin_run.new.store c.begin_run.new.record = rw c.in-Ok.is at c.begin_run.ensures in
    let h : c.in-Ok.begun.store ≤ 16384 = omega (arith, r.fits, length-replicate {A = ℕ} 16384 0) in
    search rules

pub cycles-requires : goal.cycles-requires
cycles-requires c =
    let r : Runs c.args.text.now c.in-Ok.begun.image c.in-Ok.begun.store _ c.begin_run.new.image c.begin_run.new.store c.begin_run.new.record = rw c.in-Ok.is at c.begin_run.ensures in
    let k : length c.begin_run.new.store ≡ 16384 = search rules in
    (runs-ready r (omega (arith, k, length-replicate {A = ℕ} 16384 0)), omega (arith, length-replicate {A = ℕ} 131074 0))

pub returns-in-Err : goal.returns-in-Err
returns-in-Err c =
    let r : Refuses c.args.text.now c.args.out.now c.begin_run.new.out c.in-Err.end = rw c.in-Err.is at c.begin_run.ensures in
    refuses-printed c.args.input.now r

pub shape_of-out-in-Ok : goal.shape_of-out-in-Ok
shape_of-out-in-Ok c =
    omega (arith, c.out-in-Ok-1.given, c.out-1.given)

pub returns-in-Ok : goal.returns-in-Ok
returns-in-Ok c =
    let r : Runs c.args.text.now c.in-Ok.begun.image c.in-Ok.begun.store _ c.begin_run.new.image c.begin_run.new.store c.begin_run.new.record = rw c.in-Ok.is at c.begin_run.ensures in
    runs-printed r c.args.input.now c.cycles.ensures c.out-1.given
