use Rattle.store_geometry.proofs.ShapeLaws.{short-length}
use Rattle.image_sections.specs.Declarations.{facility_meant}
use native.Mathlib.Omega.{arith}
use mathlib.Core.List.{[]}
use Rattle.run_references.proofs.bounds.word_length.Goals as goal

pub overflow_cast-result : goal.overflow_cast-result
overflow_cast-result c =
    let f = facility_meant [] c.args.f in
    omega (arith, short-length f (record { first = omega arith; last = omega arith }), c.word_length.ensures.1 f (c.shape_of.ensures []))

pub returns : goal.returns
returns c =
    let f = facility_meant [] c.args.f in
    (omega (arith, short-length f (record { first = omega arith; last = omega arith }), c.word_length.ensures.1 f (c.shape_of.ensures [])), λ name. c.word_length.ensures.1 _ (c.shape_of.ensures name))
