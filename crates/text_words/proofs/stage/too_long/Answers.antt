use mathlib.Core.Path.{refl}
use Rattle.language.specs.Ceilings.{longest_text}
use Rattle.text_words.proofs.stage.too_long.Goals as goal

pub returns : goal.returns
unfolding longest_text
returns c = refl
