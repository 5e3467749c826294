use mathlib.Core.Path.{◌∙◌}
use Rattle.image_sections.proofs.HeaderLaws.{section-fits}
use borrow.Author.Rules.{rules}
use Rattle.image_sections.proofs.sections.section.Goals as goal

pub overflow_mul-size_in : goal.overflow_mul-size_in
overflow_mul-size_in c = section-fits c.size_in.ensures.1 (search rules)

pub returns : goal.returns
returns c =
    c.part.ensures ∙ rw (c.size_in.ensures.0, c.count_of-count.ensures, c.offset_of-offset.ensures)
