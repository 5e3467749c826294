use mathlib.Core.List.{[]}
use native.Mathlib.Omega.{arith}
use Rattle.store_geometry.proofs.ShapeLaws.{short-bytes}
use Rattle.image_sections.specs.Declarations.{facility_meant}
use Rattle.run_begin.proofs.sizes.words_bytes.Goals as goal

pub returns : goal.returns
returns c =
    let f = facility_meant [] c.args.f in
    let few = short-bytes f (record { first = omega arith; last = omega arith }) (record { first = omega arith; last = omega arith }) in
    (omega (arith, few, c.words_bytes.ensures.1 f (c.shape_of.ensures [])), λ name. c.words_bytes.ensures.1 _ (c.shape_of.ensures name))
