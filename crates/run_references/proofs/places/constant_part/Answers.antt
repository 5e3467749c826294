use Rattle.run_references.proofs.BoundLaws.{from-first-lt}
use Rattle.language.specs.Description as D
use native.Mathlib.Omega.{arith}
use mathlib.Core.Path.{ap, sym, ◌∙◌}
use Rattle.run_references.proofs.places.constant_part.Goals as goal

pub overflow_cast-from : goal.overflow_cast-from
overflow_cast-from c =
    let f = ap (λ (x : D.Bounds). x.first) c.bounds_of-d.ensures in
    let l = ap (λ (x : D.Bounds). x.last) c.bounds_of-d.ensures in
    let h = from-first-lt _ (omega (arith, f)) (omega (arith, l)) _ (sym c.in_bounds.ensures ∙ c.if-not-in_bounds.false) in
    omega (arith, c.from_first-from.ensures)

pub returns : goal.returns
returns c =
    rw (← c.bounds_of-d.ensures, sym c.in_bounds.ensures ∙ c.if-not-in_bounds.false, sym c.in_bounds-else-not-in_bounds.ensures ∙ c.if-not-in_bounds-2.false, sym c.same_direction.ensures ∙ c.if-not-same_direction.false, ← c.from_first-from.ensures, ← c.span.ensures.0) c.narrow.ensures
