use mathlib.Core.Path.{sym, ◌∙◌}
use borrow.Author.Tests.{ne_eqb}
use Rattle.text_characters.proofs.LowBits.{low_bits}
use Rattle.text_characters.proofs.letters.alike.Goals as goal

pub returns-else-x-y-2 : goal.returns-else-x-y-2
returns-else-x-y-2 c = ne_eqb _ _ c.if-x-y-2.false ∙ sym (ne_eqb _ _ (λ e. c.if-x-y-2.false (low_bits _ _ e)))
