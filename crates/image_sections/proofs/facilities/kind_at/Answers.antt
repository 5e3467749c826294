use mathlib.Core.Path.{sym, ap, ◌∙◌}
use Rattle.language.specs.Decode.{facility_of}
use Rattle.language.specs.Description as D
use Rattle.image_sections.proofs.DeclarationLaws.{facility-past, facility-whole}
use Rattle.image_sections.proofs.facilities.kind_at.Goals as goal

pub returns-then-facilities-n : goal.returns-then-facilities-n
returns-then-facilities-n c =
    λ name. let a = c.args in ap (λ (f : D.Facility). f.kind) (sym (facility-past a.facilities.now a.n name c.if-facilities-n.true))

pub returns : goal.returns
unfolding facility_of
returns c =
    λ name.
    let a = c.args in
    c.from.ensures ∙ ap (λ (f : D.Facility). f.kind) (sym (facility-whole a.facilities.now a.n name c.if-facilities-n.false))
