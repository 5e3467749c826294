use mathlib.Core.Path.{sym, ap, ◌∙◌}
use Prim.Native.Nat.{◌+◌, ◌*◌}
use native.Mathlib.Omega.{arith}
use Rattle.language.specs.Description as D
use Rattle.image_records.proofs.NodeLaws.{node-past, node-constant, node-unmarked, node-more, node-plain}
use Rattle.image_records.specs.Nodes.{constant_number}
use Rattle.language.specs.Encode.{node_size}
use Rattle.image_records.proofs.nodes.node_at.Goals as goal

pub returns-then-exprs-n : goal.returns-then-exprs-n
returns-then-exprs-n c =
    sym (node-past c.args.exprs.now c.args.n c.if-exprs-n.true)

pub overflow_cast-result : goal.overflow_cast-result
overflow_cast-result c =
    omega (arith, c.shared_slice_known-3-1.given (node_size * c.args.n + 1))

pub overflow_add-result : goal.overflow_add-result
overflow_add-result c =
    omega (arith, c.shared_slice_known-3-1.given (node_size * c.args.n + 1))

pub returns-then-digits_marked : goal.returns-then-digits_marked
returns-then-digits_marked c =
    sym (node-constant c.args.exprs.now c.args.n c.if-exprs-n.false c.in-1.is (sym c.digits_marked.ensures ∙ c.if-digits_marked.true))

pub returns-else-digits_marked : goal.returns-else-digits_marked
returns-else-digits_marked c =
    sym (node-unmarked c.args.exprs.now c.args.n c.if-exprs-n.false c.in-1.is (sym c.digits_marked.ensures ∙ c.if-digits_marked.false))

pub returns-in-2 : goal.returns-in-2
returns-in-2 c =
    ap D.more c.six_there.ensures.0 ∙ sym (node-more c.args.exprs.now c.args.n c.if-exprs-n.false c.in-2.is)

pub returns-in_default : goal.returns-in_default
returns-in_default c =
    c.plain_node.ensures (constant_number c.args.n c.args.exprs.now)
    ∙ rw (c.two_there-a.ensures, c.two_there-b.ensures, c.two_there-c.ensures) (sym (node-plain c.args.exprs.now c.args.n c.if-exprs-n.false c.in_default.in_default-own.rest.0.1 c.in_default.in_default-own.rest.1))
