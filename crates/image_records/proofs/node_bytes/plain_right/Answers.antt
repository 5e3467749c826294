use mathlib.Core.Path.{refl, sym, ◌∙◌}
use borrow.Author.Tests.{ne_eqb}
use Rattle.language.specs.Decode.{plain_node}
use Rattle.language.specs.Encode.{node_bytes, node_record}
use Rattle.image_records.proofs.ByteLaws.{same_refl}
use Rattle.image_records.proofs.FieldLaws.{has_one, has-three, has-two, names-no-more, names-one-more, names-two-more}
use borrow.Author.Rules.{rules}
use Rattle.image_records.proofs.node_bytes.plain_right.Goals as goal

pub returns-in-3 : goal.returns-in-3
unfolding plain_node node_bytes
returns-in-3 c =
    let s = c.before.before in
    rw c.in-3.is (c.three_zero.ensures ∙ sym (names-no-more 3 s.args.x s.args.a s.args.b s.args.c (search rules)))

pub returns-in-4 : goal.returns-in-4
unfolding plain_node node_bytes
returns-in-4 c =
    let s = c.before.before in
    rw c.in-4.is (c.two_zero.ensures ∙ sym (names-one-more 4 s.args.x s.args.a s.args.b s.args.c (search rules)))

pub returns-in-5 : goal.returns-in-5
unfolding plain_node node_bytes
returns-in-5 c =
    let s = c.before in
    rw c.in-5.is (sym (names-two-more 5 s.args.x s.args.a s.args.b s.args.c (search rules)))

pub returns-in-6 : goal.returns-in-6
unfolding plain_node node_bytes
returns-in-6 c =
    let s = c.before in
    rw c.in-6.is (sym (names-two-more 6 s.args.x s.args.a s.args.b s.args.c (search rules)))

pub returns-in-7 : goal.returns-in-7
unfolding plain_node node_bytes
returns-in-7 c =
    let s = c.before in
    rw c.in-7.is (sym (same_refl (node_record 7 s.args.x s.args.a s.args.b s.args.c)))

pub returns-in-8 : goal.returns-in-8
unfolding plain_node node_bytes
returns-in-8 c =
    let s = c.before.before in
    rw c.in-8.is (c.three_zero-in-8.ensures ∙ sym (has_one 8 s.args.x s.args.a s.args.b s.args.c (search rules) 8 refl))

pub returns-in-9 : goal.returns-in-9
unfolding plain_node node_bytes
returns-in-9 c =
    let s = c.before.before in
    rw c.in-9.is (c.two_zero-in-9.ensures ∙ sym (has-two 9 s.args.x s.args.a s.args.b s.args.c (search rules) 9 refl))

pub returns-in-10 : goal.returns-in-10
unfolding plain_node node_bytes
returns-in-10 c =
    let s = c.before in
    rw c.in-10.is (sym (has-three 10 s.args.x s.args.a s.args.b s.args.c (search rules)))

pub returns-in_default : goal.returns-in_default
unfolding plain_node
returns-in_default c =
    simp (ne_eqb _ _ c.in_default.in_default-own.rest.1, ne_eqb _ _ c.in_default.in_default-own.rest.0.1, ne_eqb _ _ c.in_default.in_default-own.rest.0.0.1, ne_eqb _ _ c.in_default.in_default-own.rest.0.0.0.1, ne_eqb _ _ c.in_default.in_default-own.rest.0.0.0.0.1, ne_eqb _ _ c.in_default.in_default-own.rest.0.0.0.0.0.1, ne_eqb _ _ c.in_default.in_default-own.rest.0.0.0.0.0.0.1, ne_eqb _ _ c.in_default.in_default-own.rest.0.0.0.0.0.0.0.1) c.operator_right.ensures
