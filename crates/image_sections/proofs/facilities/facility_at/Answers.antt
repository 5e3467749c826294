use mathlib.Core.Path.{refl, sym, ◌∙◌}
use native.Mathlib.Omega.{arith}
use Rattle.image_sections.proofs.DeclarationLaws.{place-past, place-whole, name-past, name-whole, facility-fields, facility-past, facility-whole}
use Rattle.language.specs.Encode.{facility_size}
use Rattle.image_sections.proofs.facilities.facility_at.Goals as goal

pub returns-then-facilities-n : goal.returns-then-facilities-n
returns-then-facilities-n c =
    record {
      name = c.no_facility.ensures.0 ∙ sym (name-past 13 2 c.args.facilities.now c.args.n (omega (arith, c.if-facilities-n.true)));
      place = c.no_facility.ensures.1 ∙ sym (place-past c.args.facilities.now c.args.n (omega (arith, c.if-facilities-n.true)));
      meaning = λ name. c.no_facility.ensures.2 name ∙ sym (facility-past c.args.facilities.now c.args.n name c.if-facilities-n.true);
    }

pub returns : goal.returns
returns c =
    record {
      name = sym (name-whole facility_size 2 c.args.facilities.now c.args.n (omega (arith, c.if-facilities-n.false)));
      place = c.two_there.ensures ∙ sym (place-whole c.args.facilities.now c.args.n (omega (arith, c.if-facilities-n.false)));
      meaning = λ name. facility-fields c.args.facilities.now c.args.n name c.from.ensures refl c.bounds_at.ensures c.bounds_at-2.ensures c.two_there.ensures
          ∙ sym (facility-whole c.args.facilities.now c.args.n name c.if-facilities-n.false);
    }
