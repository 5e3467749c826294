use mathlib.Core.Path.{refl, sym, ap, ◌∙◌}
use native.Mathlib.Omega.{arith}
use Rattle.trace_input.specs.Stimulus.{octet_meant}
use Rattle.trace_input.proofs.LineWord.{count_small, put_all, put_first, put-in-line, put-long, put-more, put-none, to_inside}
use borrow.Author.Rules.{rules}
use Rattle.trace_input.proofs.stimulus.word.Goals as goal

pub overflow_sub-stimulus : goal.overflow_sub-stimulus
overflow_sub-stimulus c =
    omega arith

pub returns-then-stimulus-place : goal.returns-then-stimulus-place
returns-then-stimulus-place c =
    (refl, λ h. absurd (omega (arith, h, c.if-stimulus-place.true, c.word_bytes-bytes.ensures)))

pub loop-rest-init : goal.loop-rest-init
loop-rest-init c =
    rw c.word_bytes-bytes.ensures (put_first c.args.length c.args.line.now c.args.at c.args.stimulus.now c.args.place c.requires.0 (omega (arith, c.word_bytes-bytes.ensures, c.if-stimulus-place.false, c.requires.1)))

pub overflow_mul-count : goal.overflow_mul-count
overflow_mul-count c =
    omega (arith, c.loop-rest.invariant.little, c.loop-rest-test.true)

pub overflow_sub-count : goal.overflow_sub-count
overflow_sub-count c =
    omega (arith, c.loop-rest.invariant.little, c.loop-rest-test.true)

pub octet_at-requires : goal.octet_at-requires
octet_at-requires c =
    (c.loop-rest.invariant.in-line, count_small _ _ _ _ _ c.loop-rest.invariant c.loop-rest-test.true)

pub shape_of-stimulus-in_default : goal.shape_of-stimulus-in_default
shape_of-stimulus-in_default c =
    put-long _ _ _ _ _ c.loop-rest.invariant

pub returns-in_default : goal.returns-in_default
returns-in_default c =
    put-none _ _ _ _ _ c.loop-rest.invariant c.loop-rest-test.true (sym (ap octet_meant c.in_default.is) ∙ c.octet_at.ensures)

pub bounds-stimulus-to : goal.bounds-stimulus-to
bounds-stimulus-to c =
    to_inside _ _ _ _ _ c.loop-rest.invariant c.loop-rest-test.true

pub overflow_add-from : goal.overflow_add-from
overflow_add-from c =
    omega (arith, put-in-line _ _ _ _ _ c.loop-rest.invariant c.loop-rest-test.true _ (sym (ap octet_meant c.in-Some.is) ∙ c.octet_at.ensures) (search rules))

pub overflow_add-to : goal.overflow_add-to
overflow_add-to c =
    omega (arith, to_inside _ _ _ _ _ c.loop-rest.invariant c.loop-rest-test.true)

pub overflow_mul-left : goal.overflow_mul-left
overflow_mul-left c =
    omega (arith, c.loop-rest.invariant.little, c.loop-rest-test.true)

pub loop-rest-preserved : goal.loop-rest-preserved
loop-rest-preserved c =
    put-more _ _ _ _ _ c.loop-rest.invariant c.loop-rest-test.true _ (sym (ap octet_meant c.in-Some.is) ∙ c.octet_at.ensures) (search rules)

pub shape_of-stimulus : goal.shape_of-stimulus
shape_of-stimulus c =
    put-long _ _ _ _ _ c.loop-rest.invariant

pub returns : goal.returns
returns c =
    put_all _ _ _ _ _ c.loop-rest.invariant c.loop-rest-test.false
