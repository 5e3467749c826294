use Rattle.image_sections.specs.Header.{counts_in}
use Rattle.image_sections.proofs.header.counts_at.Goals as goal

pub returns : goal.returns
unfolding counts_in
returns c =
    rw (c.count_of.ensures, c.count_of-2.ensures, c.count_of-3.ensures, c.count_of-4.ensures, c.count_of-5.ensures, c.count_of-6.ensures)
