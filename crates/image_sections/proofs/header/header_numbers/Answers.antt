use mathlib.Core.Path.{refl}
use Rattle.image_sections.specs.Header.{header_numbers}
use Rattle.image_sections.proofs.header.header_numbers.Goals as goal

pub returns : goal.returns
unfolding header_numbers
returns c =
    refl
