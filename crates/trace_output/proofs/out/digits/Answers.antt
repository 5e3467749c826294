use mathlib.Core.Path.{◌≡◌, sym, ap, ◌∙◌}
use Prim.Native.Nat.{ℕ, ◌+◌, ◌-◌, ◌%◌, ◌≤◌, ◌<◌}
use native.Mathlib.Omega.{arith}
use borrow.Author.Rules.{rules}
use lib.ListN.{drop, drop_of_length-le, length, length-set}
use Rattle.language.specs.Trace.{decimal_from}
use Rattle.trace_output.proofs.DecimalLaws.{digit-last, digit-more, one-back, twenty-enough}
use Rattle.trace_output.proofs.out.digits.Goals as goal

pub loop-at-init : goal.loop-at-init
loop-at-init c =
    let l : length c.args.last.now ≡ 20 = search rules in
    let h : length c.args.last.now ≤ 20 = omega (arith, l) in
    (l, ap (decimal_from 20 c.args.n) (drop_of_length-le c.args.last.now h) ∙ twenty-enough c.args.n (omega arith))

pub overflow_add-last : goal.overflow_add-last
overflow_add-last c = omega arith

pub bounds-last-at : goal.bounds-last-at
bounds-last-at c = omega arith

pub returns-then-left-eq0 : goal.returns-then-left-eq0
returns-then-left-eq0 c =
    let e = one-back c.loop-at.at c.loop-at-test.true in
    let h : c.loop-at.at - 1 < length c.loop-at.last = omega (arith, c.loop-at.invariant.0) in (
      omega arith,
      length-set c.loop-at.last (c.loop-at.at - 1) (c.loop-at.left % 10 + 48) ∙ c.loop-at.invariant.0,
      digit-last c.loop-at.last (c.loop-at.at - 1) c.loop-at.left h c.if-left-eq0.true ∙ (ap (λ (k : ℕ). decimal_from k c.loop-at.left (drop k c.loop-at.last)) (sym e) ∙ c.loop-at.invariant.1),
    )

pub loop-at-preserved : goal.loop-at-preserved
loop-at-preserved c =
    let e = one-back c.loop-at.at c.loop-at-test.true in
    let h : c.loop-at.at - 1 < length c.loop-at.last = omega (arith, c.loop-at.invariant.0) in (
      length-set c.loop-at.last (c.loop-at.at - 1) (c.loop-at.left % 10 + 48) ∙ c.loop-at.invariant.0,
      digit-more c.loop-at.last (c.loop-at.at - 1) c.loop-at.left h c.if-left-eq0.false ∙ (ap (λ (k : ℕ). decimal_from k c.loop-at.left (drop k c.loop-at.last)) (sym e) ∙ c.loop-at.invariant.1),
    )

pub returns : goal.returns
unfolding decimal_from
returns c =
    let z : c.loop-at.at ≡ 0 = omega arith in
    (omega arith, c.loop-at.invariant.0, sym (ap (λ (k : ℕ). decimal_from k c.loop-at.left (drop k c.loop-at.last)) z) ∙ c.loop-at.invariant.1)
