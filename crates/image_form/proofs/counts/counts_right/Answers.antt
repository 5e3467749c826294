use mathlib.Core.Path.{sym, ◌∙◌}
use native.Mathlib.Omega.{arith}
use Rattle.image_form.proofs.CountLaws.{counts-facilities, counts-no-facility, counts-no-state, counts-operations, counts-rest, counts-states}
use Rattle.image_form.proofs.counts.counts_right.Goals as goal

pub returns-then-f-gt-MOST_FACILITIES : goal.returns-then-f-gt-MOST_FACILITIES
returns-then-f-gt-MOST_FACILITIES c =
    λ d f o e a s. sym (counts-facilities d (omega (arith, f.count, c.if-f-gt-MOST_FACILITIES.true)))

pub returns-then-o-gt-MOST_OPERATIONS : goal.returns-then-o-gt-MOST_OPERATIONS
returns-then-o-gt-MOST_OPERATIONS c =
    λ d f o e a s. sym (counts-operations d (omega (arith, f.count, c.if-f-gt-MOST_FACILITIES.false)) (omega (arith, o.count, c.if-o-gt-MOST_OPERATIONS.true)))

pub returns-then-s-gt-MOST_STATES : goal.returns-then-s-gt-MOST_STATES
returns-then-s-gt-MOST_STATES c =
    λ d f o e a s. sym (counts-states d (omega (arith, f.count, c.if-f-gt-MOST_FACILITIES.false)) (omega (arith, o.count, c.if-o-gt-MOST_OPERATIONS.false)) (omega (arith, s.count, c.if-s-gt-MOST_STATES.true)))

pub returns-then-s-eq0 : goal.returns-then-s-eq0
returns-then-s-eq0 c =
    λ d f o e a s. sym (counts-no-state d (omega (arith, f.count, c.if-f-gt-MOST_FACILITIES.false)) (omega (arith, o.count, c.if-o-gt-MOST_OPERATIONS.false)) (omega (arith, s.count, c.if-s-gt-MOST_STATES.false)) (s.count ∙ c.if-s-eq0.true))

pub returns-then-f-eq0 : goal.returns-then-f-eq0
returns-then-f-eq0 c =
    λ d f o e a s. sym (counts-no-facility d (omega (arith, f.count, c.if-f-gt-MOST_FACILITIES.false)) (omega (arith, o.count, c.if-o-gt-MOST_OPERATIONS.false)) (omega (arith, s.count, c.if-s-gt-MOST_STATES.false)) (omega (arith, s.count, c.if-s-eq0.false)) (f.count ∙ c.if-f-eq0.true))

pub returns : goal.returns
returns c =
    λ d f o e a s. c.counted_right.ensures d e a s ∙ sym (counts-rest d (omega (arith, f.count, c.if-f-gt-MOST_FACILITIES.false)) (omega (arith, o.count, c.if-o-gt-MOST_OPERATIONS.false)) (omega (arith, s.count, c.if-s-gt-MOST_STATES.false)) (omega (arith, s.count, c.if-s-eq0.false)) (omega (arith, f.count, c.if-f-eq0.false)))
