use mathlib.Core.Bool.{Bool, false, true}
use mathlib.Core.Path.{◌≡◌, sym, ◌∙◌}
use Prim.Native.Nat.{◌+◌, ◌%◌}
use native.Mathlib.Omega.{arith}
use borrow.Author.Tests.{ne_eqb}
use lib.Dec.{eqb}
use Rattle.language.specs.Tests.{both}
use Rattle.language.specs.Decode.{operator_of}
use Rattle.language.specs.Encode.{node_bytes}
use Rattle.image_records.proofs.FieldLaws.{all-zero, has_one, has-two}
use borrow.Author.Rules.{rules}
use Rattle.image_records.proofs.node_bytes.operator_right.Goals as goal

pub returns-in-1 : goal.returns-in-1
unfolding operator_of node_bytes
returns-in-1 c =
    let s = c.before.before in
    rw c.in-1.is (c.two_zero.ensures ∙ sym (has-two s.args.mark s.args.x s.args.a s.args.b s.args.c (search rules) (64 + s.args.mark % 64) (omega (arith, c.in-1.is))))

pub returns-in-2 : goal.returns-in-2
unfolding operator_of node_bytes
returns-in-2 c =
    let s = c.before.before in
    rw c.in-2.is (c.three_zero.ensures ∙ sym (has_one s.args.mark s.args.x s.args.a s.args.b s.args.c (search rules) (128 + s.args.mark % 64) (omega (arith, c.in-2.is))))

pub returns-in-3 : goal.returns-in-3
unfolding operator_of node_bytes
returns-in-3 c =
    let s = c.before.before in
    rw c.in-3.is (c.two_zero-in-3.ensures ∙ sym (has-two s.args.mark s.args.x s.args.a s.args.b s.args.c (search rules) (192 + s.args.mark % 64) (omega (arith, c.in-3.is, s.ranges))))

-- The fields of what is broken, of which a call tests two and another three.
zeros : (p q r : Bool) {b : Bool} → b ≡ both p q → both p (both q r) ≡ both b r
zeros true q r e = rw e
zeros false q r e = rw e

pub returns-then-two_zero : goal.returns-then-two_zero
unfolding operator_of node_bytes
returns-then-two_zero c =
    let a = c.args in
    let zero = all-zero a.mark a.x a.a a.b a.c (search rules) ∙ zeros (eqb a.mark 0) (eqb a.x 0) _ c.two_zero-in_default.ensures in
    simp (ne_eqb _ _ c.in_default.in_default-own.rest.1, ne_eqb _ _ c.in_default.in_default-own.rest.0.1, ne_eqb _ _ c.in_default.in_default-own.rest.0.0.1) (c.three_zero-then-two_zero.ensures ∙ sym (zero ∙ rw c.if-two_zero.true))

pub returns-else-two_zero : goal.returns-else-two_zero
unfolding operator_of node_bytes
returns-else-two_zero c =
    let a = c.args in
    let zero = all-zero a.mark a.x a.a a.b a.c (search rules) ∙ zeros (eqb a.mark 0) (eqb a.x 0) _ c.two_zero-in_default.ensures in
    simp (ne_eqb _ _ c.in_default.in_default-own.rest.1, ne_eqb _ _ c.in_default.in_default-own.rest.0.1, ne_eqb _ _ c.in_default.in_default-own.rest.0.0.1) (c.if-two_zero.false ∙ sym (zero ∙ rw c.if-two_zero.false))
