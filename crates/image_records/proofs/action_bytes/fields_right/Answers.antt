use mathlib.Core.Path.{sym, ◌∙◌}
use native.Mathlib.Omega.{arith}
use borrow.Author.Tests.{eq-eqb, ne_eqb}
use Rattle.language.specs.Decode.{action_with}
use Rattle.language.specs.Encode.{action_bytes, action_record}
use Rattle.image_records.proofs.ByteLaws.{same_refl}
use Rattle.image_records.proofs.FieldLaws.{action-none, action-one, action-two, action-zero}
use Rattle.image_records.proofs.action_bytes.fields_right.Goals as goal

pub returns-else-mark-eq0 : goal.returns-else-mark-eq0
unfolding action_with action_bytes
returns-else-mark-eq0 c =
    let s = c.before.before in
    simp (ne_eqb _ _ c.in_default.in_default-own.rest.1, ne_eqb _ _ c.in_default.in_default-own.rest.0.1, ne_eqb _ _ c.in_default.in_default-own.rest.0.0.1, ne_eqb _ _ c.in_default.in_default-own.rest.0.0.0.1, ne_eqb _ _ c.in_default.in_default-own.rest.0.0.0.0.1, ne_eqb _ _ c.in_default.in_default-own.rest.0.0.0.0.0.1, ne_eqb _ _ c.in_default.in_default-own.rest.0.0.0.0.0.0.1, ne_eqb _ _ c.in_default.in_default-own.rest.0.0.0.0.0.0.0.1, ne_eqb _ _ c.in_default.in_default-own.rest.0.0.0.0.0.0.0.0.1, ne_eqb _ _ c.in_default.in_default-own.rest.0.0.0.0.0.0.0.0.0.1, ne_eqb _ _ c.in_default.in_default-own.rest.0.0.0.0.0.0.0.0.0.0.1, ne_eqb _ _ c.in_default.in_default-own.rest.0.0.0.0.0.0.0.0.0.0.0.1) (sym (action-zero s.args.mark s.args.a s.args.b s.args.c (omega (arith, s.ranges)) (omega (arith, s.ranges)) (omega (arith, s.ranges)) ∙ rw (ne_eqb _ _ c.if-mark-eq0.false)))

pub returns-in-1 : goal.returns-in-1
unfolding action_with action_bytes
returns-in-1 c =
    let s = c.before in
    rw c.in-1.is (sym (action-two 1 s.args.a s.args.b s.args.c (omega (arith, s.ranges)) (omega (arith, s.ranges)) (omega (arith, s.ranges))))

pub returns-in-2 : goal.returns-in-2
unfolding action_with action_bytes
returns-in-2 c =
    let s = c.before in
    rw c.in-2.is (sym (action-two 2 s.args.a s.args.b s.args.c (omega (arith, s.ranges)) (omega (arith, s.ranges)) (omega (arith, s.ranges))))

pub returns-in-3 : goal.returns-in-3
unfolding action_with action_bytes
returns-in-3 c =
    let s = c.before in
    rw c.in-3.is (sym (same_refl (action_record 3 s.args.a s.args.b s.args.c)))

pub returns-in-4 : goal.returns-in-4
unfolding action_with action_bytes
returns-in-4 c =
    let s = c.before in
    rw c.in-4.is (sym (same_refl (action_record 4 s.args.a s.args.b s.args.c)))

pub returns-in-5 : goal.returns-in-5
unfolding action_with action_bytes
returns-in-5 c =
    let s = c.before.before in
    rw c.in-5.is (c.two_zero.ensures ∙ sym (action-one 5 s.args.a s.args.b s.args.c (omega (arith, s.ranges)) (omega (arith, s.ranges)) (omega (arith, s.ranges))))

pub returns-in-6 : goal.returns-in-6
unfolding action_with action_bytes
returns-in-6 c =
    let s = c.before.before in
    rw c.in-6.is (c.two_zero-in-6.ensures ∙ sym (action-one 6 s.args.a s.args.b s.args.c (omega (arith, s.ranges)) (omega (arith, s.ranges)) (omega (arith, s.ranges))))

pub returns-in-7 : goal.returns-in-7
unfolding action_with action_bytes
returns-in-7 c =
    let s = c.before.before in
    rw c.in-7.is (c.two_zero-in-7.ensures ∙ sym (action-one 7 s.args.a s.args.b s.args.c (omega (arith, s.ranges)) (omega (arith, s.ranges)) (omega (arith, s.ranges))))

pub returns-in-8 : goal.returns-in-8
unfolding action_with action_bytes
returns-in-8 c =
    let s = c.before.before in
    rw c.in-8.is (c.two_zero-in-8.ensures ∙ sym (action-one 8 s.args.a s.args.b s.args.c (omega (arith, s.ranges)) (omega (arith, s.ranges)) (omega (arith, s.ranges))))

pub returns-in-9 : goal.returns-in-9
unfolding action_with action_bytes
returns-in-9 c =
    let s = c.before.before in
    rw c.in-9.is (c.three_zero.ensures ∙ sym (action-none 9 s.args.a s.args.b s.args.c (omega (arith, s.ranges)) (omega (arith, s.ranges)) (omega (arith, s.ranges))))

pub returns-in-10 : goal.returns-in-10
unfolding action_with action_bytes
returns-in-10 c =
    let s = c.before in
    rw c.in-10.is (sym (action-two 10 s.args.a s.args.b s.args.c (omega (arith, s.ranges)) (omega (arith, s.ranges)) (omega (arith, s.ranges))))

pub returns-in-11 : goal.returns-in-11
unfolding action_with action_bytes
returns-in-11 c =
    let s = c.before in
    rw c.in-11.is (sym (same_refl (action_record 11 s.args.a s.args.b s.args.c)))

pub returns-in-12 : goal.returns-in-12
unfolding action_with action_bytes
returns-in-12 c =
    let s = c.before.before in
    rw c.in-12.is (c.two_zero-in-12.ensures ∙ sym (action-one 12 s.args.a s.args.b s.args.c (omega (arith, s.ranges)) (omega (arith, s.ranges)) (omega (arith, s.ranges))))

pub returns-then-mark-eq0 : goal.returns-then-mark-eq0
unfolding action_with action_bytes
returns-then-mark-eq0 c =
    let s = c.before.before.before in
    simp (ne_eqb _ _ c.in_default.in_default-own.rest.1, ne_eqb _ _ c.in_default.in_default-own.rest.0.1, ne_eqb _ _ c.in_default.in_default-own.rest.0.0.1, ne_eqb _ _ c.in_default.in_default-own.rest.0.0.0.1, ne_eqb _ _ c.in_default.in_default-own.rest.0.0.0.0.1, ne_eqb _ _ c.in_default.in_default-own.rest.0.0.0.0.0.1, ne_eqb _ _ c.in_default.in_default-own.rest.0.0.0.0.0.0.1, ne_eqb _ _ c.in_default.in_default-own.rest.0.0.0.0.0.0.0.1, ne_eqb _ _ c.in_default.in_default-own.rest.0.0.0.0.0.0.0.0.1, ne_eqb _ _ c.in_default.in_default-own.rest.0.0.0.0.0.0.0.0.0.1, ne_eqb _ _ c.in_default.in_default-own.rest.0.0.0.0.0.0.0.0.0.0.1, ne_eqb _ _ c.in_default.in_default-own.rest.0.0.0.0.0.0.0.0.0.0.0.1) (c.three_zero-then-mark-eq0.ensures ∙ sym (action-zero s.args.mark s.args.a s.args.b s.args.c (omega (arith, s.ranges)) (omega (arith, s.ranges)) (omega (arith, s.ranges)) ∙ rw (eq-eqb _ _ c.if-mark-eq0.true)))
