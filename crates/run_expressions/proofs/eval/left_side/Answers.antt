use mathlib.Core.Path.{sym, ap, ◌∙◌}
use Rattle.language.specs.Meaning.{eval_below}
use Rattle.image_records.specs.Nodes.{constant_number}
use Rattle.store_layout.specs.InBytes.{bytes}
use Rattle.image_records.specs.References.{reference_meant}
use Rattle.run_expressions.proofs.SideLaws.{left-place, left-none, left_there}
use Rattle.run_expressions.proofs.eval.left_side.Goals as goal

pub returns-in-Some : goal.returns-in-Some
returns-in-Some c =
    λ d x h e.
    let q = sym (c.reference_of.ensures (constant_number c.args.n c.args.image.now.expressions.now)) ∙ ap reference_meant c.in-Some.is in
    let m = h.nodes c.args.n ∙ sym c.node_at.ensures in
    let p = c.place_of.ensures.1 d x h e in
    (p ∙ sym (left-place d x c.args.n _ m _ q), left_there d c.args.image.now.facilities.now (eval_below (bytes d) d x c.args.n) _ c.place_of.result c.place_of.ensures.0 p)

pub returns-in-None : goal.returns-in-None
returns-in-None c =
    λ d x h e.
    let q = sym (c.reference_of.ensures (constant_number c.args.n c.args.image.now.expressions.now)) ∙ ap reference_meant c.in-None.is in
    let m = h.nodes c.args.n ∙ sym c.node_at.ensures in
    (sym (left-none d x c.args.n _ m q), tt)
