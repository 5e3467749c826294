use mathlib.Core.Path.{sym, ap, ◌∙◌}
use Prim.Native.Nat.{◌-◌}
use borrow.Author.Tests.{eq-eqb, ne_eqb}
use Rattle.image_order.proofs.EdgeLaws.{edge_at, edge-some}
use Rattle.image_order.proofs.StartLaws.{constant-at, found_within, starts}
use Rattle.image_order.specs.Edges.{edge}
use borrow.Author.Rules.{rules}
use Rattle.image_order.proofs.starts.+before_two_before_walked.Goals as goal

pub before-returns-then-a-n : goal.before-returns-then-a-n
before-returns-then-a-n t c =
    λ d h. rw (ne_eqb _ _ c.if-a-n.true)

pub before-returns : goal.before-returns
before-returns t c =
    λ d h. rw (eq-eqb _ _ c.if-a-n.false) (c.walked.ensures d h)

pub walked-constant_start-requires : goal.walked-constant_start-requires
walked-constant_start-requires t c =
    constant-at c.args.exprs.now c.args.n _ c.node_at.result c.node_at.ensures (sym c.parts_of.ensures ∙ c.in-Digits.is)

pub walked-returns-in-No : goal.walked-returns-in-No
walked-returns-in-No t c =
    λ d h. sym (starts d c.args.exprs.now h c.args.n c.node_at.result c.node_at.ensures (sym c.parts_of.ensures ∙ c.in-No.is))

pub walked-returns-in-Leaf : goal.walked-returns-in-Leaf
walked-returns-in-Leaf t c =
    λ d h. edge-some _ ∙ sym (starts d c.args.exprs.now h c.args.n c.node_at.result c.node_at.ensures (sym c.parts_of.ensures ∙ c.in-Leaf.is))

pub walked-returns-in-Digits : goal.walked-returns-in-Digits
walked-returns-in-Digits t c =
    c.constant_start.ensures

pub walked-returns-in-One : goal.walked-returns-in-One
walked-returns-in-One t c =
    λ d h. c.before-in-One.ensures d h ∙ sym (starts d c.args.exprs.now h c.args.n c.node_at.result c.node_at.ensures (sym c.parts_of.ensures ∙ c.in-One.is))

pub walked-returns-in-Two : goal.walked-returns-in-Two
walked-returns-in-Two t c =
    λ d h. c.two_before.ensures d h ∙ sym (starts d c.args.exprs.now h c.args.n c.node_at.result c.node_at.ensures (sym c.parts_of.ensures ∙ c.in-Two.is))

pub two_before-returns-then-second-eq-NONE : goal.two_before-returns-then-second-eq-NONE
two_before-returns-then-second-eq-NONE t c =
    λ d h. rw (sym (c.before-second.ensures d h) ∙ ap edge c.if-second-eq-NONE.true)

pub two_before-before-requires : goal.two_before-before-requires
two_before-before-requires t c =
    let h = found_within c.args.exprs.now c.args.b c.args.n (c.before-second.result - 1) (λ d h. sym (edge_at _ c.if-second-eq-NONE.false) ∙ c.before-second.ensures d h) in
    search rules

pub two_before-returns : goal.two_before-returns
two_before-returns t c =
    λ d h. rw (sym (c.before-second.ensures d h) ∙ edge_at _ c.if-second-eq-NONE.false) (c.before-2.ensures d h)
