use Rattle.run_references.proofs.BoundLaws.{distance-in, distance-out, from-first-lt}
use Rattle.language.specs.Description as D
use native.Mathlib.Omega.{arith}
use mathlib.Core.Path.{ap, sym, ◌∙◌}
use Rattle.run_references.proofs.places.subscript.Goals as goal

pub overflow_cast-result : goal.overflow_cast-result
overflow_cast-result c =
    let f = ap (λ (x : D.Bounds). x.first) c.bounds_of-x.ensures in
    let l = ap (λ (x : D.Bounds). x.last) c.bounds_of-x.ensures in
    let h = from-first-lt _ (omega (arith, f)) (omega (arith, l)) _ (sym c.in_bounds.ensures ∙ c.if-not-in_bounds.false) in
    omega (arith, c.from_first.ensures)

pub returns-then-not-in_bounds : goal.returns-then-not-in_bounds
returns-then-not-in_bounds c =
    let f = ap (λ (x : D.Bounds). x.first) c.bounds_of-x.ensures in
    let l = ap (λ (x : D.Bounds). x.last) c.bounds_of-x.ensures in
    λ on. rw (← c.bounds_of-x.ensures, c.in_ok-w.was) (distance-out _ (omega (arith, f)) (omega (arith, l)) _ _ c.small-n.ensures on _ (sym c.in_bounds.ensures ∙ c.if-not-in_bounds.true))

pub returns : goal.returns
returns c =
    let f = ap (λ (x : D.Bounds). x.first) c.bounds_of-x.ensures in
    let l = ap (λ (x : D.Bounds). x.last) c.bounds_of-x.ensures in
    λ on. rw (← c.bounds_of-x.ensures, c.in_ok-w.was) (ap on c.from_first.ensures ∙ distance-in _ (omega (arith, f)) (omega (arith, l)) _ _ c.small-n.ensures on _ (sym c.in_bounds.ensures ∙ c.if-not-in_bounds.false))
